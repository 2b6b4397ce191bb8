-- The keys of an order after a fresh start.
use Rattle.std.proofs.Common.{◌≡◌, ℕ, ◌+◌, ◌<◌, List, [], ◌∷◌, length, map, slice_get, refl, ap, sym, ◌∙◌, subst, arith, zero, suc, inl, inr}
use Rattle.std.specs.Prelude.{Option, None, Some}
use Rattle.std.specs.Option.{option_cmp, option_map}
use Rattle.std.specs.declared.cmp.Ordering.{Ordering}
use Rattle.std.specs.declared.cmp.Ordering.TheVariants.{Less, Equal}
use Rattle.std.proofs.lemmas.List.{length-map}
use Rattle.std.proofs.lemmas.Option.{none-some, slice_get-map}
use Rattle.tib_lex.specs.Lists.{Has, Distinct}
use Rattle.tib_lex.proofs.Lists.{some_same, has_mapped, mapped_has}
use Rattle.tib_canon.specs.Keys.{StandBefore, AreByKeys, behind_fresh}
use Rattle.tib_canon.proofs.KeyOrder.{AreAllByKeys}
use Rattle.tib_canon.proofs.NormalByText.{ascends_mapped}

module _ {K : Type 0} where
  abbrev some : K → Option K
  some k = Some k

  pub behind_long : (order : List K) → length (behind_fresh order) ≡ suc (length order)
  behind_long order = ap suc (length-map order some)

  -- keys that are distinct are so after a fresh start

  some_stands : (order : List K) (k : K) → Has (map some order) (Some k) → Has order k
  some_stands order k h = let a = has_mapped some order (Some k) h in subst (Has order) (some_same a.0 k a.2) a.1

  none_stands : (order : List K) → Has (map some order) None → ⊥
  none_stands order h = let a = has_mapped some order None h in none-some a.0 (sym a.2)

  somes_once : (order : List K) → Distinct order → Distinct (map some order)
  somes_once [] d = tt
  somes_once (x ∷ order) d = (λ h. d.0 (some_stands order x h), somes_once order d.1)

  pub behind_once : (order : List K) → Distinct order → Distinct (behind_fresh order)
  behind_once order d = (none_stands order, somes_once order d)

  pub behind_same : (cmp : K → K → Ordering) → ((x y : K) → cmp x y ≡ Equal → x ≡ y) → (x y : Option K) → option_cmp cmp x y ≡ Equal → x ≡ y
  behind_same cmp same None None e = refl
  behind_same cmp same None (Some y) e = absurd (cc)
  behind_same cmp same (Some x) None e = absurd (cc)
  behind_same cmp same (Some x) (Some y) e = ap some (same x y e)

  came_from : (o : Option K) (x : Option K) → option_map some o ≡ Some x → (k : K) × (o ≡ Some k) × (Some k ≡ x)
  came_from None x e = absurd (none-some x e)
  came_from (Some k) x e = (k, refl, some_same (Some k) x e)

distinct_ups : (ps : List ℕ) → Distinct ps → Distinct (map suc ps)
distinct_ups [] d = tt
distinct_ups (p ∷ ps) d = (
  λ h.
      let a = has_mapped suc ps (suc p) h in
      let e : a.0 ≡ p = omega (arith, a.2) in
      d.0 (subst (Has ps) e a.1),
  distinct_ups ps d.1,
)

module _ {K : Type 0} (cmp : K → K → Ordering) (order : List K) where
  before_behind : (p q : ℕ) → StandBefore cmp order p q → StandBefore (option_cmp cmp) (behind_fresh order) (suc p) (suc q)
  before_behind p q before x y at_x at_y =
      let a = came_from (slice_get order p) x (sym (slice_get-map some order p) ∙ at_x) in
      let b = came_from (slice_get order q) y (sym (slice_get-map some order q) ∙ at_y) in
      subst (λ (z : Option K). option_cmp cmp z y ≡ Less) a.2 (subst (λ (z : Option K). option_cmp cmp (Some a.0) z ≡ Less) b.2 (before a.0 b.0 a.1 b.1))

  -- the fresh start, followed by all positions by their keys
  module _ (ps : List ℕ) (all : AreAllByKeys cmp order ps) where
    stands_below : (p : ℕ) → Has (0 ∷ map suc ps) p → p < length (behind_fresh order)
    stands_below p (inl e) = omega (arith, e, behind_long order)
    stands_below p (inr h) =
        let a = has_mapped suc ps p h in
        let low : a.0 < length order = (all.all a.0).0 a.1 in
        omega (arith, a.2, low, behind_long order)

    below_stands : (p : ℕ) → p < length (behind_fresh order) → Has (0 ∷ map suc ps) p
    below_stands zero h = inl refl
    below_stands (suc p) h = inr (mapped_has suc ps p ((all.all p).1 (omega (arith, h, behind_long order))))

    pub behind_by_keys : AreByKeys (option_cmp cmp) (behind_fresh order) 0 (0 ∷ map suc ps)
    behind_by_keys = record {
      others = map suc ps;
      first = refl;
      ascend = ascends_mapped (StandBefore cmp order) (StandBefore (option_cmp cmp) (behind_fresh order)) suc ps (λ p q h k before. before_behind p q before) all.ascend;
      all = λ p. (stands_below p, below_stands p);
      once = (λ h. let a = has_mapped suc ps 0 h in let e : suc a.0 ≡ 0 = a.2 in absurd (omega arith), distinct_ups ps all.once);
      many = omega (arith, length-map ps suc, all.many, behind_long order);
    }

-- one more than each position, with the keys left out
pub ups : {A B : Type 0} (ms : List (A × B × ℕ)) → map (λ m. m.2 + 1) ms ≡ map suc (map (λ m. m.2) ms)
ups [] = refl
ups (m ∷ ms) =
    let e : m.2 + 1 ≡ suc m.2 = omega arith in
    ap (λ n. n ∷ map (λ m. m.2 + 1) ms) e ∙ ap (λ ns. suc m.2 ∷ ns) (ups ms)
