-- The numbers of runs of states.
use Rattle.std.specs.Prelude.{◌≡◌, ℕ, List, map}
use Rattle.std.proofs.Common.{get_or}
use Rattle.tib_lex.specs.Lists.{Has}
use Rattle.tib_grammar.specs.declared.Rule.{Rule}
use Rattle.tib_count.specs.Counts.{HasMembers, counted}
use Rattle.tib_count.specs.Counted.{IsRunFrom}
use Rattle.tib_count.specs.declared.count.Count.{Count}
use Rattle.tib_count.specs.declared.count.Count.TheVariants.{Endless}

-- the left states of some rules
abbrev pub lefts : List (Rule ℕ) → List ℕ
lefts rules = map (λ r. r.left) rules

-- the state's total is the count of that number
abbrev pub HasTotal : List Count → (ℕ → ℕ) → ℕ → Type 0
HasTotal totals number q = get_or totals q Endless ≡ counted (number q)

-- each of the states has as many runs as its number says, and its total is the count of that
pub record AreSummed (rules : List (Rule ℕ)) (states : List ℕ) (totals : List Count) : Type 0 where
  pub number : ℕ → ℕ
  pub runs : (q : ℕ) → Has states q → HasMembers (IsRunFrom rules q) (number q)
  pub total : (q : ℕ) → Has states q → HasTotal totals number q
