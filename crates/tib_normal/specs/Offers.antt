-- What a side costs a state of the grammar, by the number of the side.
use Rattle.std.specs.Prelude.{◌≡◌, ℕ, ◌<◌, List, length}
use Rattle.std.proofs.Common.{get_or}
use Rattle.tib_grammar.specs.declared.Rule.{Rule}
use Rattle.tib_grammar.specs.Run.{rule_at}
use Rattle.tib_normal.specs.NormalForm.{IsChainCost}

-- marks a chain rule, which has no side of its own
abbrev pub no_side : ℕ
no_side = 4294967295

-- c is the cost of a chain from q to a state, and of a rule of that state whose side has the number
-- s
pub record IsOffer (product : ℕ → ℕ → ℕ) (rules : List (Rule ℕ)) (numbers : List ℕ)
    (q s c : ℕ) : Type 0 where
  pub rule : ℕ
  pub below : rule < length rules
  pub number : get_or numbers rule no_side ≡ s
  pub chained : ℕ
  pub leads : IsChainCost product rules q (rule_at rules rule).left chained
  pub costs : product chained (rule_at rules rule).cost ≡ c
