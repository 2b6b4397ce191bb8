-- What the rules cost, in order.
use Rattle.std.specs.Prelude.{◌≡◌, ℕ, ◌<◌, ◌≤◌, List, length}
use Rattle.std.proofs.Common.{get_or}
use Rattle.tib_lex.specs.Lists.{Has}
use Rattle.tib_grammar.specs.declared.Rule.{Rule}

-- a rule at another cost
abbrev pub at_cost : ℕ → Rule ℕ → Rule ℕ
at_cost c r = record { left = r.left; right = r.right; cost = c }

-- the costs of all rules, ascending
pub record AreCosts (rules : List (Rule ℕ)) (cs : List ℕ) : Type 0 where
  pub ascend : (i j : ℕ) → i ≤ j → j < length cs → get_or cs i 0 ≤ get_or cs j 0
  pub there : (r : Rule ℕ) → Has rules r → Has cs r.cost
  pub stands : (i : ℕ) → i < length cs → (r : Rule ℕ) × Has rules r × (r.cost ≡ get_or cs i 0)
