-- What states keep when they have their first trees.
use Rattle.std.specs.Prelude.{◌≡◌, ℕ, ◌<◌, List, [], length}
use Rattle.std.proofs.Common.{get_or}
use Rattle.tib_lex.specs.Lists.{Has, Distinct}
use Rattle.tib_grammar.specs.Run.{rule_at}
use Rattle.tib_grammar.specs.declared.Rule.{Rule}
use Rattle.tib_ranked_trees.specs.ListsOf.{ListsOf}
use Rattle.tib_ranked_trees.specs.Held.{list_of, entry_at}
use Rattle.tib_lazy_lists.specs.AskingOf.{StateOf, no_state}
use Rattle.tib_lazy_lists.specs.Asks.{IsState}

-- each state keeps what it does, whatever number of trees is asked for
abbrev pub AreFirstStates : (ℕ → ℕ → ℕ) → ListsOf → List StateOf → Type 0
AreFirstStates product x states = (q : ℕ) → q < length states → (k : ℕ) → IsState product k x q (get_or states q no_state)

-- the first n rules are with their states, each once
pub record AreSomeByState (rules : List (Rule ℕ)) (n : ℕ) (by_state : List (List ℕ)) : Type 0 where
  pub each : (m : ℕ) → m < n → Has (get_or by_state (rule_at rules m).left []) m
  pub only : (q m : ℕ) → Has (get_or by_state q []) m → (m < n) × ((rule_at rules m).left ≡ q)
  pub once : (q : ℕ) → Distinct (get_or by_state q [])

-- the trees of the first n states are noted
pub record AreSomeListed (x : ListsOf) (n : ℕ) (pairs : List (ℕ × ℕ)) : Type 0 where
  pub to : (q j : ℕ) → q < n → j < length (list_of x q) → Has pairs (q, (entry_at x q j).tree)
  pub from : (q m : ℕ) → Has pairs (q, m) → (j : ℕ) × (j < length (list_of x q)) × ((entry_at x q j).tree ≡ m)
