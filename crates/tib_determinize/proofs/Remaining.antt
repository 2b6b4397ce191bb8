-- The rules that are left on a walk, where n is last at the place j.
use Rattle.std.specs.Prelude.{◌≡◌, ℕ, ◌+◌, ◌<◌, ◌≤◌, Bool, List, [], ◌∷◌, ◌++◌, length, drop, refl}
use Rattle.std.proofs.Common.{zero, suc, arith, ap, sym, ◌∙◌, subst, get_or, inl, inr, append_assoc, length-append}
use Rattle.tib_lex.specs.Lists.{Has}
use Rattle.tib_grammar.specs.Run.{rule_at}
use Rattle.tib_grammar.specs.Forms.{AreNormal}
use Rattle.tib_grammar.specs.declared.Rule.{Rule}
use Rattle.tib_cost.specs.Semiring.{ProductLaws}
use Rattle.tib_determinize.specs.declared.alive.Alive.{Alive}
use Rattle.tib_determinize.specs.Vectors.{VectorOf, IsWeight, vector_at, vectors_at}
use Rattle.tib_determinize.specs.Alive.{states_of, AreAlive, AreLeft}
use Rattle.tib_determinize.specs.Tries.{first_at, many_at, under, behind_label}
use Rattle.tib_determinize.specs.Stepped.{HasNoStep, AreSteps}
use Rattle.tib_determinize.proofs.Leaves.{rule_listed, part_within, weights_long}
use Rattle.tib_determinize.proofs.Tried.{IsAllowed, AreAllowed, allowed_long, at_last, under_is, where_is}
use Rattle.tib_determinize.proofs.PositionsTried.{ends_up_to}
use Rattle.tib_determinize.proofs.Underway.{steps_none}
use Rattle.tib_determinize.proofs.Walked.{labelled_has, weight_behind}

-- a state that has a residual is in its vector
stands_at :
    (product : ℕ → ℕ → ℕ) (order : List VectorOf) (qs ps : List ℕ) (w j : ℕ) → IsWeight product qs (vectors_at order ps) w → j < length qs →
    (r : ℕ) × Has {A = ℕ × ℕ} (vector_at order (get_or ps j 0)) (get_or qs j 0, r)
stands_at product order [] ps w j h low = absurd (omega (arith, low))
stands_at product order (q ∷ qs) [] w j h low = absurd h
stands_at product order (q ∷ qs) (p ∷ ps) w zero h low = (h.residual, h.stands)
stands_at product order (q ∷ qs) (p ∷ ps) w (suc j) h low = stands_at product order qs ps h.others j h.are (omega (arith, low))

behind_front : (before : List ℕ) (p : ℕ) (ps : List ℕ) (j : ℕ) → length before ≡ j → get_or (before ++ p ∷ ps) j 0 ≡ p
behind_front [] p ps zero e = refl
behind_front [] p ps (suc j) e = absurd (omega (arith, e))
behind_front (x ∷ before) p ps zero e = absurd (omega (arith, e))
behind_front (x ∷ before) p ps (suc j) e = behind_front before p ps j (omega (arith, e))

-- what is at the place x may be there
at_place : (n j i x : ℕ) (front ps : List ℕ) → AreAllowed n j i front → x < i → IsAllowed n j x (get_or (front ++ ps) x 0)
at_place n j zero x front ps a low = absurd (omega (arith, low))
at_place n j (suc i) x front ps (before, p, e, allowed, rest) low =
    subst (IsAllowed n j x) (sym (ap (λ (xs : List ℕ). get_or (xs ++ ps) x 0) e ∙ ap (λ (xs : List ℕ). get_or xs x 0) (append_assoc before (p ∷ []) ps)))
    (elim (where_is x i low) [
      | inl at ↦ subst (IsAllowed n j x) (sym (behind_front before p ps x (allowed_long n j i before rest ∙ sym at))) (subst (λ m. IsAllowed n j m p) (sym at) allowed)
      | inr less ↦ at_place n j i x before (p ∷ ps) rest less
    ])

allowed_up : (n j i p : ℕ) → IsAllowed n j i p → p ≤ n
allowed_up n j i p a = let up = ends_up_to n j i (first_at n j i + many_at n j i) refl in let low = a.1 in omega (arith, up, low)

module _ (product : ℕ → ℕ → ℕ) {levelled weighted : Bool} (laws : ProductLaws levelled weighted product) (rules : List (Rule ℕ)) (normal : AreNormal rules) (order : List VectorOf) (f k n j : ℕ) where
  -- where no rule is left, no list that ends in the positions has a step
  none_left :
      (i : ℕ) (ps front : List ℕ) → AreAllowed n j i front → i + length ps ≡ k → AreLeft product rules order f k n j i ps [] → HasNoStep product rules order (f, front ++ ps)
  none_left i ps front allowed total h = λ q u is low.
      let long = allowed_long n j i front allowed in
      let within = part_within product laws rules normal order f k (rule_at rules is.rule).cost is.weight u is.costs low in
      let behind = weight_behind product laws rules normal order f k front ps (states_of rules is.rule) is.weight is.is_weight within in
      let all : length (states_of rules is.rule) ≡ k =
      weights_long product laws rules f (vectors_at order (front ++ ps)) (states_of rules is.rule) (vectors_at order (front ++ ps)) is.weight is.is_weight
      ∙ mapped (front ++ ps) ∙ length-append front ps ∙ ap (λ m. m + length ps) long ∙ total
      in
      h.whole is.rule behind.0 (rule_listed product laws rules normal order f k is.rule is.below is.root all)
      (subst (λ m. IsWeight product (drop m (states_of rules is.rule)) (vectors_at order ps) behind.0) long behind.1) behind.2
      (λ x before.
      let p = get_or (front ++ ps) x 0 in
      let may = at_place n j i x front ps allowed before in (
        p,
        allowed_up n j x p may,
        λ at. at_last n j p (subst (λ y. IsAllowed n j y p) at may),
        stands_at product order (states_of rules is.rule) (front ++ ps) is.weight x is.is_weight (omega (arith, before, all, total)),
      ))
    where
      mapped : (xs : List ℕ) → length (vectors_at order xs) ≡ length xs
      mapped [] = refl
      mapped (x ∷ xs) = ap suc (mapped xs)

  -- so they add no edges
  pub under_none :
      (i : ℕ) (ps : List ℕ) → i + length ps ≡ k → AreLeft product rules order f k n j i ps [] → AreSteps product rules order (behind_label f (under n j i ps)) []
  under_none i ps total h =
      steps_none product rules order (behind_label f (under n j i ps))
      (λ o has.
      let b = labelled_has f (under n j i ps) o has in
      let e = under_is n j i ps o.1 b.1 in
      subst (HasNoStep product rules order) (same o f (e.0 ++ ps) b.0 e.1) (none_left i ps e.0 e.2 total h))
    where
      same : (o : ℕ × List ℕ) (g : ℕ) (qs : List ℕ) → o.0 ≡ g → o.1 ≡ qs → ◌≡◌ {A = ℕ × List ℕ} (g, qs) o
      same o g qs a b = sym (ap (λ x. (x, o.1)) a ∙ ap (λ (y : List ℕ). (g, y)) b)

  -- where no place is to come, these are all that are alive
  pub left_are_alive : (ps : List ℕ) (alive : List Alive) → AreLeft product rules order f k n j 0 ps alive → AreAlive product rules order f k 0 ps alive
  left_are_alive ps alive h = record { sound = h.sound; whole = λ m w has weight low. h.whole m w has weight low (λ x before. absurd (omega (arith, before))) }
