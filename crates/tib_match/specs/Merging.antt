-- Partial matches of which the cheapest in each place is kept.
use Rattle.std.specs.Prelude.{◌≡◌, ◌≤◌, Bool, true, false, List, [], ◌∷◌}
use Rattle.std.specs.Ordering.{nat_cmp, ordering_then}
use Rattle.std.specs.Cmp.Lexicographic.{slice_cmp}
use Rattle.std.specs.declared.cmp.Ordering.{Ordering}
use Rattle.std.specs.declared.cmp.Ordering.TheVariants.{Less}
use Rattle.tib_lex.specs.Lists.{Has, Ascends}
use Rattle.tib_match.specs.declared.partial.Partial.{Partial}

-- both wait for the same states and have the same states at holes
abbrev pub AreInOnePlace : Partial → Partial → Type 0
AreInOnePlace p r = (p.waiting.items ≡ r.waiting.items) × (p.states.items ≡ r.states.items)

-- the order by what waits and then by the states
abbrev pub place_cmp : Partial → Partial → Ordering
place_cmp p r = ordering_then (slice_cmp nat_cmp p.waiting.items r.waiting.items) (slice_cmp nat_cmp p.states.items r.states.items)

-- the answer says whether the last of a list is in the place of r
abbrev pub IsAgain : List Partial → Partial → Bool → Type 0
IsAgain [] r b = b ≡ false
IsAgain (p ∷ []) r true = AreInOnePlace p r
IsAgain (p ∷ []) r false = AreInOnePlace p r → ⊥
IsAgain (p ∷ q ∷ ps) r b = IsAgain (q ∷ ps) r b

-- Each that is kept was there, and for each that was there one in its place is kept that costs no
-- more. They ascend by their places.
pub record AreMerged (found kept : List Partial) : Type 0 where
  pub ascend : Ascends (λ p r. place_cmp p r ≡ Less) kept
  pub sound : (p : Partial) → Has kept p → Has found p
  pub whole : (p : Partial) → Has found p → (r : Partial) × Has kept r × AreInOnePlace r p × (r.cost ≤ p.cost)
