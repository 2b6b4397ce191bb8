-- The rules without states, one after another.
use Rattle.std.specs.Prelude.{◌≡◌, ℕ, ◌+◌, ◌<◌, ◌≤◌, List, [], ◌∷◌, ◌++◌, length, drop, refl}
use Rattle.std.proofs.Common.{zero, suc, arith, add-one}
use Rattle.tib_grammar.specs.Run.{rule_at}
use Rattle.tib_grammar.specs.declared.Rule.{Rule}
use Rattle.tib_difference.specs.Tries.{leaf_try, leaves_from}

from_place : (rules : List (Rule ℕ)) (n k : ℕ) → n < length rules → leaves_from k (drop n rules) ≡ leaf_try k (rule_at rules n) ++ leaves_from (suc k) (drop (suc n) rules)
from_place [] n k h = absurd (omega arith)
from_place (r ∷ rules) zero k h = refl
from_place (r ∷ rules) (suc n) k h = from_place rules n k (omega arith)

-- the next rule, and those behind it
pub leaves_step : (rules : List (Rule ℕ)) (n : ℕ) → n < length rules → leaves_from n (drop n rules) ≡ leaf_try n (rule_at rules n) ++ leaves_from (n + 1) (drop (n + 1) rules)
leaves_step rules n h = rw add-one (from_place rules n n h)

-- none are left
pub leaves_end : (rules : List (Rule ℕ)) (n k : ℕ) → length rules ≤ n → leaves_from k (drop n rules) ≡ []
leaves_end [] zero k h = refl
leaves_end [] (suc n) k h = refl
leaves_end (r ∷ rules) zero k h = absurd (omega arith)
leaves_end (r ∷ rules) (suc n) k h = leaves_end rules n k (omega arith)
