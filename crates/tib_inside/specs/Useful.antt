-- Live rules and useful states.
use Rattle.std.specs.Prelude.{ℕ, ◌<◌, ◌≤◌, List, [], ◌∷◌, length, Some}
use Rattle.tib_lex.specs.Lists.{Has, Along}
use Rattle.tib_grammar.specs.Sides.{holes_of}
use Rattle.tib_grammar.specs.Run.{rule_at}
use Rattle.tib_grammar.specs.declared.Rule.{Rule}
use Rattle.tib_cost.specs.Semiring.{most}
use Rattle.tib_inside.specs.Inside.{IsInside}

-- the product of some costs
abbrev pub product_of : (ℕ → ℕ → ℕ) → List ℕ → ℕ
product_of product [] = 0
product_of product (c ∷ cs) = product c (product_of product cs)

-- A rule is live if the product of its cost and the inside costs of the states in its right side is
-- at most the greatest cost. With the rules `q -> A(r s) # 0`, `r -> b # 1`, `s -> c # 4`, `s -> d
-- # 2` and `u -> B(u) # 0` all but the last are live.
pub record IsLive (product : ℕ → ℕ → ℕ) (rules : List (Rule ℕ)) (n : ℕ) : Type 0 where
  pub below : n < length rules
  pub insides : List ℕ
  pub are_insides : Along (λ q c. IsInside product rules q (Some c))
      (holes_of (rule_at rules n).right) insides
  pub within : product (rule_at rules n).cost (product_of product insides) ≤ most

-- The start is useful if it has an inside cost, and so is each state in the right side of a live
-- rule of a useful state. With the rules above q, r and s are useful, and u is not.
pub data IsUseful (product : ℕ → ℕ → ℕ) (rules : List (Rule ℕ)) : ℕ → Type 0 where
  start : (c : ℕ) → IsInside product rules 0 (Some c) → IsUseful product rules 0
  below :
      (n q : ℕ) → IsUseful product rules (rule_at rules n).left → IsLive product rules n →
      Has (holes_of (rule_at rules n).right) q → IsUseful product rules q
