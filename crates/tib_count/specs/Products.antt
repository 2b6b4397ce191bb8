-- Products and sums of numbers that states and rules have.
use Rattle.std.specs.Prelude.{ℕ, ◌+◌, ◌*◌, List, [], ◌∷◌, nat_eq, if◌then◌else◌}
use Rattle.std.proofs.Common.{zero, suc}
use Rattle.tib_grammar.specs.Sides.{holes_of}
use Rattle.tib_grammar.specs.Run.{rule_at}
use Rattle.tib_grammar.specs.declared.Rule.{Rule}

-- the product of the numbers of some states, each as often as it occurs
abbrev pub product_over : (ℕ → ℕ) → List ℕ → ℕ
product_over number [] = 1
product_over number (q ∷ qs) = number q * product_over number qs

-- how many lists of runs there are from the states in the right-hand side of a rule, where the
-- states have these numbers
abbrev pub rule_number : List (Rule ℕ) → (ℕ → ℕ) → ℕ → ℕ
rule_number rules number n = product_over number (holes_of (rule_at rules n).right)

-- the sum of the numbers of those of the first k rules whose left state is q
abbrev pub sum_over : List (Rule ℕ) → (ℕ → ℕ) → ℕ → ℕ → ℕ
sum_over rules number q zero = 0
sum_over rules number q (suc k) =
    sum_over rules number q k + (if nat_eq (rule_at rules k).left q then number k else 0)
