-- How the rules of rows are arranged, state by state.
use Rattle.std.specs.Prelude.{◌≡◌, ℕ, ◌+◌, ◌<◌, ◌≤◌, ◌⊎◌, List, [], ◌∷◌, ◌++◌, length, refl}
use Rattle.std.proofs.Common.{zero, suc, get_or, arith, ap, sym, ◌∙◌, subst, inl, inr}
use Rattle.tib_lex.specs.Lists.{Has, Ascends}
use Rattle.tib_grammar.specs.declared.Rule.{Rule}
use Rattle.tib_grammar.proofs.Members.{has_at, at_has, has_left, has_right, has_either}
use Rattle.tib_normal.specs.Rows.{side_at}
use Rattle.tib_normal.specs.Links.{IsNext, no_key}
use Rattle.tib_normal.specs.Gathered.{rule_of, AreOther}
use Rattle.tib_normal.specs.Arranging.{states_of, row_at, HaveOneNumber, IsOfRow, IsArranging, AreArranged}
use Rattle.tib_normal.specs.declared.row.Row.{Row}
use Rattle.tib_normal.proofs.Pairwise.{Ascends-at}
use Rattle.tib_normal.proofs.Forming.{joined}

-- the state of a row among the states of all
pub state_at : (rows : List Row) (n : ℕ) → n < length rows → get_or (states_of rows) n no_key ≡ (row_at rows n).state
state_at [] n h = absurd (omega arith)
state_at (x ∷ rows) zero h = refl
state_at (x ∷ rows) (suc n) h = state_at rows n (omega arith)

pub states_long : (rows : List Row) → length (states_of rows) ≡ length rows
states_long [] = refl
states_long (x ∷ rows) = omega (arith, states_long rows)

module _ (table : List (List ℕ)) (rows : List Row) (q : ℕ) where
  -- no row of the state comes before the first
  pub arranging-start : (n : ℕ) (rules : List (Rule ℕ)) → IsNext (states_of rows) q 0 n → IsArranging table rows q 0 rules → IsArranging table rows q n rules
  arranging-start n rules next a = record {
    ascends = a.ascends;
    below = a.below;
    of_rows = λ r h. let o = a.of_rows r h in record { place = o.place; below = o.below; is = o.is; before = λ e. absurd (omega (arith, o.before e)) };
    earlier = a.earlier;
    here = λ i h e b. absurd (next.none_between i (omega arith) b (state_at rows i h ∙ e));
    apart = a.apart;
  }

  -- the rule of one more row
  pub arranging-more :
      (n m : ℕ) (rules : List (Rule ℕ)) (new : Rule ℕ) → n < length rows → (row_at rows n).state ≡ q → new ≡ rule_of table (row_at rows n) → IsNext (states_of rows) q (n + 1) m →
      IsArranging table rows q n rules → IsArranging table rows q m (rules ++ new ∷ [])
  arranging-more n m rules new h state is next a = record {
    ascends = joined (λ r s. r.left ≤ s.left) rules (new ∷ []) a.ascends (tt, tt) (λ r s k l. omega (arith, a.below r k, left s l));
    below = λ r k. below r (has_either rules (new ∷ []) r k);
    of_rows = λ r k. of_rows r (has_either rules (new ∷ []) r k);
    earlier = λ i b e. has_left rules (new ∷ []) (rule_of table (row_at rows i)) (a.earlier i b e);
    here = λ i b e l. here i b e l (place i n);
    apart = λ other numbers. joined (λ r s. r.left ≡ s.left → r.right ≡ s.right → ⊥) rules (new ∷ []) (a.apart other numbers) (tt, tt) (λ r s k l e d. apart other numbers r s k l e d);
  }
    where
      one : (r : Rule ℕ) → Has (new ∷ []) r → rule_of table (row_at rows n) ≡ r
      one r (inl e) = sym is ∙ e
      one r (inr z) = absurd z

      left : (r : Rule ℕ) → Has (new ∷ []) r → r.left ≡ q
      left r k = sym (ap (λ (x : Rule ℕ). x.left) (one r k)) ∙ state

      below : (r : Rule ℕ) → Has rules r ⊎ Has (new ∷ []) r → r.left ≤ q
      below r (inl k) = a.below r k
      below r (inr k) = omega (arith, left r k)

      of_rows : (r : Rule ℕ) → Has rules r ⊎ Has (new ∷ []) r → IsOfRow table rows q m r
      of_rows r (inl k) = let o = a.of_rows r k in record { place = o.place; below = o.below; is = o.is; before = λ e. omega (arith, o.before e, next.from) }
      of_rows r (inr k) = record { place = n; below = h; is = one r k; before = λ e. omega (arith, next.from) }

      place : (i n : ℕ) → (i < n) ⊎ ((i ≡ n) ⊎ (n < i))
      place i n = grind arith

      here : (i : ℕ) → i < length rows → (row_at rows i).state ≡ q → i < m → (i < n) ⊎ ((i ≡ n) ⊎ (n < i)) → Has (rules ++ new ∷ []) (rule_of table (row_at rows i))
      here i b e l (inl k) = has_left rules (new ∷ []) (rule_of table (row_at rows i)) (a.here i b e k)
      here i b e l (inr (inl k)) = has_right rules (new ∷ []) (rule_of table (row_at rows i)) (inl (is ∙ ap (λ j. rule_of table (row_at rows j)) (sym k)))
      here i b e l (inr (inr k)) = absurd (next.none_between i (omega arith) l (state_at rows i b ∙ e))

      apart : Ascends AreOther rows → HaveOneNumber table rows → (r s : Rule ℕ) → Has rules r → Has (new ∷ []) s → r.left ≡ s.left → r.right ≡ s.right → ⊥
      apart other numbers r s k l e d =
          let o = a.of_rows r k in
          let before : o.place < n = o.before (e ∙ left s l) in
          let states : (row_at rows o.place).state ≡ (row_at rows n).state = ap (λ (x : Rule ℕ). x.left) o.is ∙ e ∙ sym (ap (λ (x : Rule ℕ). x.left) (one s l)) in
          let sides : side_at table (row_at rows o.place).side ≡ side_at table (row_at rows n).side = ap (λ (x : Rule ℕ). x.right) o.is ∙ d ∙ sym (ap (λ (x : Rule ℕ). x.right) (one s l)) in
          let same : (row_at rows o.place).side ≡ (row_at rows n).side =
          numbers (row_at rows o.place) (row_at rows n) (has_at rows o.place (record { state = 0; side = 0; cost = 0 }) o.below) (has_at rows n (record { state = 0; side = 0; cost = 0 }) h) sides
          in
          Ascends-at AreOther rows (record { state = 0; side = 0; cost = 0 }) other o.place n before h states same

  -- all rows of the state
  pub arranging-all : (n : ℕ) (rules : List (Rule ℕ)) → length rows ≤ n → n ≤ length rows → IsArranging table rows q n rules → IsArranging table rows q (length rows) rules
  arranging-all n rules h k a = subst (λ m. IsArranging table rows q m rules) (omega (arith, h, k)) a

  -- the next state
  pub arranging-next : (rules : List (Rule ℕ)) → IsArranging table rows q (length rows) rules → IsArranging table rows (q + 1) 0 rules
  arranging-next rules a = record {
    ascends = a.ascends;
    below = λ r h. omega (arith, a.below r h);
    of_rows = λ r h. let o = a.of_rows r h in record { place = o.place; below = o.below; is = o.is; before = λ e. absurd (omega (arith, a.below r h, e)) };
    earlier = λ i h b. earlier i h (last_or_before (row_at rows i).state q b);
    here = λ i h e b. absurd (omega (arith, b));
    apart = a.apart;
  }
    where
      last_or_before : (m n : ℕ) → m < n + 1 → (m < n) ⊎ (m ≡ n)
      last_or_before m n h = grind arith

      earlier : (i : ℕ) → i < length rows → ((row_at rows i).state < q) ⊎ ((row_at rows i).state ≡ q) → Has rules (rule_of table (row_at rows i))
      earlier i h (inl k) = a.earlier i h k
      earlier i h (inr k) = a.here i h k h

pub arranging-none : (table : List (List ℕ)) (rows : List Row) (rules : List (Rule ℕ)) → rules ≡ [] → IsArranging table rows 0 0 rules
arranging-none table rows rules empty = subst (λ rs. IsArranging table rows 0 0 rs) (sym empty) record {
  ascends = tt;
  below = λ r h. absurd h;
  of_rows = λ r h. absurd h;
  earlier = λ i h b. absurd (omega (arith, b));
  here = λ i h e b. absurd (omega (arith, b));
  apart = λ other numbers. tt;
}

-- all states
pub arranged : (table : List (List ℕ)) (rows : List Row) (q states : ℕ) (rules : List (Rule ℕ)) → states ≤ q → IsArranging table rows q 0 rules → AreArranged table rows states rules
arranged table rows q states rules past a = record {
  ascends = a.ascends;
  of_rows = λ r h. let o = a.of_rows r h in (row_at rows o.place, has_at rows o.place (record { state = 0; side = 0; cost = 0 }) o.below, o.is);
  all_rows = λ x h b.
      let p = at_has rows x (record { state = 0; side = 0; cost = 0 }) h in
      let state : (row_at rows p.0).state ≡ x.state = ap (λ (y : Row). y.state) p.2 in
      subst (λ (y : Row). Has rules (rule_of table y)) p.2 (a.earlier p.0 p.1 (omega (arith, state, b, past)));
  apart = a.apart;
}
