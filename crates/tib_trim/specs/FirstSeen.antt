-- The states of some rules, each where it first is.
use Rattle.std.specs.Prelude.{◌≡◌, ◌⊎◌, ℕ, ◌<◌, List, [], ◌∷◌, ◌++◌, map, filter, nat_eq, not, length}
use Rattle.std.proofs.Common.{get_or}
use Rattle.tib_lex.specs.Lists.{Has}
use Rattle.tib_grammar.specs.declared.Rule.{Rule}

-- each number of a list once, where it first is
abbrev pub firsts : List ℕ → List ℕ
firsts [] = []
firsts (q ∷ qs) = q ∷ filter (λ p. not (nat_eq q p)) (firsts qs)

-- the start, and the left states of some rules in the order in which they first are there
abbrev pub states_of : List (Rule ℕ) → List ℕ
states_of rules = firsts (0 ∷ map (λ r. r.left) rules)

-- q is put behind the others, unless it is among them
abbrev pub IsSeen : List ℕ → ℕ → List ℕ → Type 0
IsSeen old q new = (Has old q × (new ≡ old)) ⊎ ((Has old q → ⊥) × (new ≡ old ++ q ∷ []))

-- these are the numbers below the count, each at its own place
pub record IsEach (count : ℕ) (states : List ℕ) : Type 0 where
  pub long : length states ≡ count
  pub own : (i : ℕ) → i < count → get_or states i 0 ≡ i
