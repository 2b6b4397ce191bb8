-- Ways to rules: by the state at the end of a chain rule, and by the number of a side.
use Rattle.std.specs.Prelude.{◌≡◌, ℕ, ◌<◌, List, length}
use Rattle.std.proofs.Common.{get_or}
use Rattle.tib_grammar.specs.Sides.{Lone}
use Rattle.tib_grammar.specs.Run.{rule_at}
use Rattle.tib_grammar.specs.declared.Rule.{Rule}
use Rattle.tib_normal.specs.Links.{AreLinks, no_key}
use Rattle.tib_normal.specs.declared.ways.Ways.{Ways}

-- the end of a chain rule is the state on its right; no other rule has one
pub record IsEnd (r : Rule ℕ) (end : ℕ) : Type 0 where
  pub chain : (q : ℕ) → r.right ≡ Lone q → end ≡ q
  pub lone : (end ≡ no_key → ⊥) → r.right ≡ Lone end

-- the ends of all rules
pub record AreEnds (rules : List (Rule ℕ)) (ends : List ℕ) : Type 0 where
  pub long : length ends ≡ length rules
  pub each : (n : ℕ) → n < length rules → IsEnd (rule_at rules n) (get_or ends n no_key)

-- the chain rules by their ends, and the other rules by the numbers of their sides
pub record AreWays (rules : List (Rule ℕ)) (numbers : List ℕ) (sides states : ℕ)
    (ways : Ways) : Type 0 where
  pub ends : List ℕ
  pub are_ends : AreEnds rules ends
  pub long : length numbers ≡ length rules
  pub chains : AreLinks ends states ways.to_state
  pub sources : AreLinks numbers sides ways.with_side
