-- A grammar without the states and rules that no run within the greatest cost uses.
use Rattle.std.specs.Prelude.{◌≡◌, ℕ, ◌<◌, ◌≤◌, ◌⊎◌, ◌↔◌, List, [], length, map, Option}
use Rattle.std.proofs.Common.{get_or}
use Rattle.tib_lex.specs.Lists.{Has, Ascends}
use Rattle.tib_tree.specs.Trees.{Tree}
use Rattle.tib_grammar.specs.GrammarOf.{GrammarOf, named_rule}
use Rattle.tib_grammar.specs.Run.{rule_at}
use Rattle.tib_grammar.specs.Range.{AreInRange, AreBelow}
use Rattle.tib_grammar.specs.Series.{IsSeriesAt}
pub use Rattle.tib_grammar.specs.Series.{HasSameSeries, HaveSameSeries}
use Rattle.tib_grammar.specs.declared.Rule.{Rule}
use Rattle.tib_inside.specs.Renaming.{AscendsByPlace}
use Rattle.tib_inside.specs.Useful.{IsLive, IsUseful}

-- The start and the useful states, and the live rules of useful states, each in its order; a
-- state's number is its place among those that are kept. Of the grammar whose states are q, r, s
-- and u, with the rules `q -> A(r s) # 0`, `r -> b # 1`, `s -> c # 4`, `s -> d # 2` and `u -> B(u)
-- # 0`, all but u and its rule are kept.
pub record IsTrimmed (product : ℕ → ℕ → ℕ) (old new : GrammarOf) : Type 0 where
  pub states : List ℕ
  pub states_ascend : Ascends ◌<◌ states
  pub are_states : (q : ℕ) → Has states q ↔ ((q ≡ 0) ⊎ IsUseful product old.rules q)
  pub rules : List ℕ
  pub rules_ascend : Ascends ◌<◌ rules
  pub are_rules : (n : ℕ) → Has rules n ↔ (IsLive product old.rules n
      × IsUseful product old.rules (rule_at old.rules n).left)
  pub in_range : AreInRange (length states) new.rules
  pub names : new.names ≡ map (λ q. get_or old.names q []) states
  pub named : map (named_rule (λ i. get_or states i 0)) new.rules ≡ map (rule_at old.rules) rules

-- the new rules over the places of the states are what trimming keeps of the old rules, whatever
-- the names of the states
abbrev pub AreTrimmed : (ℕ → ℕ → ℕ) → List (Rule ℕ) → List ℕ → List (Rule ℕ) → Type 0
AreTrimmed product old states new =
    (names : List (List ℕ)) → IsTrimmed product (record { names = names; rules = old }) (record { names = map (λ q. get_or names q []) states; rules = new })

-- some of the states below a number, ascending, at least one
pub record AreSomeStates (count : ℕ) (states : List ℕ) : Type 0 where
  pub some : 0 < length states
  pub few : length states ≤ count
  pub below : AreBelow count states
  pub ascend : AscendsByPlace states

-- each state that is kept has its series under its new number
abbrev pub HasSeriesOfEach : (ℕ → ℕ → ℕ) → GrammarOf → GrammarOf → Type 0
HasSeriesOfEach product old new =
    (trimmed : IsTrimmed product old new) (i : ℕ) → i < length trimmed.states → (t : Tree ℕ) (v : Option ℕ) →
    IsSeriesAt product old.rules (get_or trimmed.states i 0) t v ↔ IsSeriesAt product new.rules i t v

-- each state that is kept has its series under its new number, whatever the names of the states
abbrev pub HaveSeriesOfEach : (ℕ → ℕ → ℕ) → List (Rule ℕ) → List ℕ → List (Rule ℕ) → Type 0
HaveSeriesOfEach product old states new =
    (names : List (List ℕ)) → HasSeriesOfEach product (record { names = names; rules = old }) (record { names = map (λ q. get_or names q []) states; rules = new })
