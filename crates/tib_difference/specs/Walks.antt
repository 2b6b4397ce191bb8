-- Walks over the lists of positions for a rule and a place, as stacks of lists that are begun.
use Rattle.std.specs.Prelude.{◌≡◌, ℕ, ◌<◌, ◌≤◌, List, [], length, map}
use Rattle.smallvec.specs.SmallVec.{SmallVec}
use Rattle.tib_lex.specs.Lists.{Each}

-- the lists of a stack
abbrev pub prefixes_of : List (SmallVec ℕ) → List (List ℕ)
prefixes_of stack = map (λ v. v.items) stack

-- one of these places has no choice
pub record IsStuck (at : ℕ → List ℕ) (rank : ℕ) : Type 0 where
  pub place : ℕ
  pub below : place < rank
  pub none : at place ≡ []

-- positions below many, of which there are no more than the rank
abbrev pub IsPrefix : ℕ → ℕ → List ℕ → Type 0
IsPrefix many rank ps = (length ps ≤ rank) × Each (λ p. p < many) ps
