-- Positions of rules in ascending order of their left states.
use Rattle.std.specs.Prelude.{ℕ, ◌<◌, ◌≤◌, List, length}
use Rattle.std.proofs.Common.{get_or}
use Rattle.tib_grammar.specs.Run.{rule_at}
use Rattle.tib_grammar.specs.declared.Rule.{Rule}

-- the rule at a later position has no lesser left state
abbrev pub LeftsAscend : List (Rule ℕ) → List ℕ → Type 0
LeftsAscend rules positions =
    (i j : ℕ) → i < j → j < length positions → (rule_at rules (get_or positions i 0)).left ≤ (rule_at rules (get_or positions j 0)).left
