-- Grammars in which there is nothing to trim.
use Rattle.std.specs.Prelude.{◌≡◌, ℕ, ◌<◌, List, length, Bool, true, Option}
use Rattle.std.specs.Option.{is_some}
use Rattle.tib_grammar.specs.Run.{rule_at}
use Rattle.tib_grammar.specs.declared.Rule.{Rule}
use Rattle.tib_inside.specs.Reaching.{IsMarked, IsReached}
use Rattle.tib_inside.specs.Settling.{rule_total}

-- the cost of each rule and the inside costs of the states in its right side have a product
abbrev pub AreAllLive : (ℕ → ℕ → ℕ) → (ℕ → Option ℕ) → List (Rule ℕ) → Type 0
AreAllLive product insides rules =
    (n : ℕ) → n < length rules → is_some (rule_total product insides (rule_at rules n)) ≡ true

-- where each rule is live, each of this many states is reached
abbrev pub AreAllLedTo : List (Rule ℕ) → ℕ → Type 0
AreAllLedTo rules states =
    (live : List Bool) → ((n : ℕ) → n < length rules → IsMarked live n) →
    (q : ℕ) → q < states → IsReached rules live q
