-- A grammar without the rules that are in no complete run; and the same with through costs.
use Rattle.std.specs.Prelude.{◌≡◌, ◌↔◌, ℕ, ◌<◌, List, [], length, map, Some}
use Rattle.std.proofs.Common.{get_or}
use Rattle.tib_lex.specs.Lists.{Has, Ascends}
use Rattle.tib_grammar.specs.GrammarOf.{GrammarOf, named_rule}
use Rattle.tib_grammar.specs.Range.{AreInRange}
use Rattle.tib_grammar.specs.Run.{rule_at}
use Rattle.tib_grammar.specs.declared.Rule.{Rule}
use Rattle.tib_trim.specs.Complete.{IsInCompleteRun, IsThroughCost}
use Rattle.tib_trim.specs.FirstSeen.{states_of}

-- these are the positions of the rules that are in complete runs, ascending
pub record AreInCompleteRuns (product : ℕ → ℕ → ℕ) (rules : List (Rule ℕ))
    (positions : List ℕ) : Type 0 where
  pub ascend : Ascends ◌<◌ positions
  pub are : (n : ℕ) → Has positions n ↔ IsInCompleteRun product rules n

-- The grammar has these rules, and as its states the start and their left states, in the order in
-- which they first are there, under their old names. A state's number is its place in that order.
pub record HasRules (old_names : List (List ℕ)) (rules : List (Rule ℕ)) (new : GrammarOf) : Type 0 where
  pub names : new.names ≡ map (λ q. get_or old_names q []) (states_of rules)
  pub in_range : AreInRange (length (states_of rules)) new.rules
  pub named : map (named_rule (λ i. get_or (states_of rules) i 0)) new.rules ≡ rules

-- The rules that are in complete runs, in the order of the file. Of `q -> A(r s) # 0`,
-- `r -> b # 1`, `s -> c # 4`, `s -> d # 2` and `u -> B(u) # 0` all but the last are kept.
pub record IsTrimmedFile (product : ℕ → ℕ → ℕ) (old new : GrammarOf) : Type 0 where
  pub positions : List ℕ
  pub are_kept : AreInCompleteRuns product old.rules positions
  pub has_rules : HasRules old.names (map (rule_at old.rules) positions) new

-- these are the through costs of the rules at some positions
pub record AreThroughCosts (product : ℕ → ℕ → ℕ) (rules : List (Rule ℕ)) (positions : List ℕ)
    (costs : List ℕ) : Type 0 where
  pub as_many : length costs ≡ length positions
  pub each : (i : ℕ) → i < length positions →
      IsThroughCost product rules (get_or positions i 0) (Some (get_or costs i 0))

-- the rules have the sides of others, and these costs
pub record HaveCosts (rules : List (Rule ℕ)) (costs : List ℕ) (new : List (Rule ℕ)) : Type 0 where
  pub as_many : length new ≡ length rules
  pub each : (n : ℕ) → n < length rules → rule_at new n
      ≡ record { left = (rule_at rules n).left; right = (rule_at rules n).right; cost = get_or costs n 0 }

-- The trimmed file with the through cost of each rule in the old grammar in place of its cost. With
-- the rules above and q as the start each of them is 3, but that of `s -> c # 4`, which is 5.
pub record HasThroughCosts (product : ℕ → ℕ → ℕ) (old new : GrammarOf) : Type 0 where
  pub trimmed : GrammarOf
  pub is_trimmed : IsTrimmedFile product old trimmed
  pub costs : List ℕ
  pub are_costs : AreThroughCosts product old.rules is_trimmed.positions costs
  pub names : new.names ≡ trimmed.names
  pub have_costs : HaveCosts trimmed.rules costs new.rules
