-- A rule in place of the state that waits first.
use Rattle.std.specs.Prelude.{◌≡◌, ℕ, ◌-◌, List, [], ◌∷◌, ◌++◌, length, take, reverse, slice_get, true, nat_eq, Some, refl}
use Rattle.std.proofs.Common.{zero, suc, arith, ap, sym, ◌∙◌, subst}
use Rattle.std.proofs.lemmas.Bool.Decides.{nat_tests}
use Rattle.std.proofs.lemmas.List.{reverse-append, reverse-reverse}
use Rattle.tib_cost.specs.Semiring.{cut}
use Rattle.tib_grammar.specs.Sides.{holes_of}
use Rattle.tib_grammar.specs.declared.Rule.{Rule}
use Rattle.tib_match.specs.PartialMatches.{Partial}
use Rattle.tib_match.specs.Leading.{partial_of, partials_of, placed, placed_at}
use Rattle.tib_match.specs.declared.partial.Partial.{Partial as Stored}

-- a list as its front and its last
split_last : (xs : List ℕ) (n q : ℕ) → length xs ≡ suc n → slice_get xs n ≡ Some q → xs ≡ take n xs ++ q ∷ []
split_last [] n q e h = absurd (omega arith)
split_last (x ∷ []) zero q e h = let same : x ≡ q = cc in ap (λ y. y ∷ []) same
split_last (x ∷ []) (suc n) q e h = absurd (omega arith)
split_last (x ∷ y ∷ xs) zero q e h = absurd (omega arith)
split_last (x ∷ y ∷ xs) (suc n) q e h = ap (λ ys. x ∷ ys) (split_last (y ∷ xs) n q (omega arith) h)

-- the last of a list is the first of the list turned around
turned : (xs : List ℕ) (n q : ℕ) → length xs ≡ suc n → slice_get xs n ≡ Some q → reverse xs ≡ q ∷ reverse (take n xs)
turned xs n q e h = ap (λ ys. reverse ys) (split_last xs n q e h) ∙ reverse-append (take n xs) (q ∷ [])

pub last_turned : (xs : List ℕ) (q : ℕ) → slice_get xs (length xs - 1) ≡ Some q → reverse xs ≡ q ∷ reverse (take (length xs - 1) xs)
last_turned [] q h = absurd (cc)
last_turned (x ∷ xs) q h =
    let e : suc (length xs) - 1 ≡ length xs = omega arith in
    rw e (turned (x ∷ xs) (length xs) q refl (subst (λ i. slice_get (x ∷ xs) i ≡ Some q) e h))

yes_equal : (a b : ℕ) → a ≡ b → nat_eq a b ≡ true
yes_equal a b e = grind (arith, nat_tests)

pub placed_one :
    (product : ℕ → ℕ → ℕ) (rule : Rule ℕ) (c d : ℕ) (ss ws others : List ℕ) (q : ℕ) → ws ≡ q ∷ others → q ≡ rule.left → cut (product c rule.cost) ≡ Some d →
    placed_at product rule c ss ws ≡ record { cost = d; states = ss; waiting = holes_of rule.right ++ others } ∷ []
placed_one product rule c d ss ws others q e k h = rw e (rw (yes_equal q rule.left k) (rw h refl))

partials_more : (old : List Stored) (p : Stored) → partials_of (old ++ p ∷ []) ≡ partials_of old ++ partial_of p ∷ []
partials_more [] p = refl
partials_more (x ∷ old) p = ap (λ ps. partial_of x ∷ ps) (partials_more old p)

same_partial : (c d : ℕ) (ss ts ws vs : List ℕ) → c ≡ d → ss ≡ ts → ws ≡ vs → ◌≡◌ {A = Partial} (record { cost = c; states = ss; waiting = ws }) (record { cost = d; states = ts; waiting = vs })
same_partial c d ss ts ws vs a b e = λ i. record { cost = a i; states = b i; waiting = e i }

module _ (product : ℕ → ℕ → ℕ) (rule : Rule ℕ) (old new : List Stored) (p next : Stored) (state d : ℕ) where
  pub add_one :
      new ≡ old ++ next ∷ [] → slice_get p.waiting.items (length p.waiting.items - 1) ≡ Some state → state ≡ rule.left → cut (product p.cost rule.cost) ≡ Some d → next.cost ≡ d →
      next.states.items ≡ p.states.items → next.waiting.items ≡ take (length p.waiting.items - 1) p.waiting.items ++ reverse (holes_of rule.right) →
      partials_of new ≡ partials_of old ++ placed product rule (partial_of p)
  add_one is last from costs cost states waiting =
      let front : List ℕ = take (length p.waiting.items - 1) p.waiting.items in
      let one : placed product rule (partial_of p) ≡ record { cost = d; states = p.states.items; waiting = holes_of rule.right ++ reverse front } ∷ [] =
      placed_one product rule p.cost d p.states.items (reverse p.waiting.items) (reverse front) state (last_turned p.waiting.items state last) from costs
      in
      let waits : reverse next.waiting.items ≡ holes_of rule.right ++ reverse front =
      ap (λ ws. reverse ws) waiting ∙ reverse-append front (reverse (holes_of rule.right)) ∙ ap (λ hs. hs ++ reverse front) (reverse-reverse (holes_of rule.right))
      in
      ap partials_of is ∙ partials_more old next
      ∙ ap (λ (q : Partial). partials_of old ++ q ∷ []) (same_partial next.cost d next.states.items p.states.items (reverse next.waiting.items) (holes_of rule.right ++ reverse front) cost states waits)
      ∙ ap (λ (qs : List Partial). partials_of old ++ qs) (sym one)
