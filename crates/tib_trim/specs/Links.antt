-- The rules of each state, one after another.
use Rattle.std.specs.Prelude.{◌≡◌, ℕ, ◌+◌, ◌<◌, ◌≤◌, List, length}
use Rattle.std.proofs.Common.{get_or}
use Rattle.tib_grammar.specs.Run.{rule_at}
use Rattle.tib_grammar.specs.declared.Rule.{Rule}
use Rattle.tib_trim.specs.declared.links.Links.{Links}

-- p is the first position from i on whose rule has the left state q, and the number of rules where
-- there is none
pub record IsNext (rules : List (Rule ℕ)) (q i p : ℕ) : Type 0 where
  pub from : i ≤ p
  pub within : p ≤ length rules
  pub own : p < length rules → (rule_at rules p).left ≡ q
  pub none_between : (n : ℕ) → i ≤ n → n < p → (rule_at rules n).left ≡ q → ⊥

-- each state's first rule, and for each rule the next one of its state
pub record AreLinks (rules : List (Rule ℕ)) (count : ℕ) (links : Links) : Type 0 where
  pub states_long : length links.first.items ≡ count
  pub rules_long : length links.next.items ≡ length rules
  pub first : (q : ℕ) → q < count → IsNext rules q 0 (get_or links.first.items q 0)
  pub next : (n : ℕ) → n < length rules →
      IsNext rules (rule_at rules n).left (n + 1) (get_or links.next.items n 0)
