-- Rules that are deterministic below the roots of trees.
use Rattle.std.specs.Prelude.{◌≡◌, ℕ, ◌<◌, ◌⊎◌, List, length}
use Rattle.tib_grammar.specs.Forms.{StandsInSide}
use Rattle.tib_grammar.specs.Run.{rule_at}
use Rattle.tib_grammar.specs.declared.Rule.{Rule}

-- a state that is in no right-hand side, so that it occurs at the root of a run alone
abbrev pub IsOuter : List (Rule ℕ) → ℕ → Type 0
IsOuter rules q = StandsInSide rules q → ⊥

-- Deterministic below the root: no two rules of one state have the same right-hand side, and two
-- rules of different states have it only where one of the states is in no right-hand side.
pub record IsDeterministicBelow (rules : List (Rule ℕ)) : Type 0 where
  pub once : (m n : ℕ) → m < length rules → n < length rules →
      (rule_at rules m).left ≡ (rule_at rules n).left →
      (rule_at rules m).right ≡ (rule_at rules n).right → m ≡ n
  pub apart : (m n : ℕ) → m < length rules → n < length rules →
      (rule_at rules m).right ≡ (rule_at rules n).right →
      (m ≡ n) ⊎ (IsOuter rules (rule_at rules m).left ⊎ IsOuter rules (rule_at rules n).left)
