-- What is kept while the states get their first trees, the least first (Knuth 1977).
use Rattle.std.specs.Prelude.{◌≡◌, ℕ, ◌+◌, ◌<◌, ◌≤◌, ◌⊎◌, List, [], ◌∷◌, ◌++◌, length, sum_by}
use Rattle.std.proofs.Math.ListN.{set}
use Rattle.std.proofs.Common.{zero, suc, get_or}
use Rattle.tib_lex.specs.Lists.{Has}
use Rattle.tib_grammar.specs.Run.{rule_at}
use Rattle.tib_ranked_trees.specs.Heaps.{IsHeap, TakesFirst}
use Rattle.tib_ranked_trees.specs.Best.{IsFrontAt}
use Rattle.tib_ranked_trees.specs.Firsts.{IsReady}
use Rattle.tib_ranked_trees.specs.Levels.{states_of}
use Rattle.tib_ranked_trees.specs.Pass.{zeros}
use Rattle.tib_ranked_trees.specs.ListsOf.{ListsOf}
use Rattle.tib_ranked_trees.specs.Held.{list_of, entry_at, entries_of, candidate_at, ranks_of, stands_for, offers_cmp, tree_by, with_entry, HasNumber, IsSound}
use Rattle.tib_lazy_lists.specs.Firsts.{IsFromFirst, IsMade}
use Rattle.tib_k_best.specs.QueueOf.{QueueOf, waiting_at}
use Rattle.tib_k_best.specs.declared.queue.Waiting.{Waiting}

-- each of the first n states has a tree
abbrev pub HasTrees : ListsOf → List ℕ → ℕ → Type 0
HasTrees x qs n = (k : ℕ) → k < n → 0 < length (list_of x (get_or qs k 0))

-- the first state without a tree is at a place, or no state is without one
pub record IsNextMissing (x : ListsOf) (qs : List ℕ) (place : ℕ) : Type 0 where
  pub within : place ≤ length qs
  pub before : HasTrees x qs place
  pub missing : place < length qs → length (list_of x (get_or qs place 0)) ≡ 0

-- rules, labels, trees and entries are as before
pub record StaysSame (x y : ListsOf) : Type 0 where
  pub rules : y.rules ≡ x.rules
  pub labels : y.labels ≡ x.labels
  pub trees : y.trees ≡ x.trees
  pub lists : y.lists ≡ x.lists

-- a rule waits for the state q, which is below it, after states that have trees
pub record IsWaiting (x : ListsOf) (q : ℕ) (a : Waiting) : Type 0 where
  pub rule : a.rule < length x.rules
  pub place : a.place < length (states_of (rule_at x.rules a.rule))
  pub state : get_or (states_of (rule_at x.rules a.rule)) a.place 0 ≡ q
  pub before : HasTrees x (states_of (rule_at x.rules a.rule)) a.place

-- a rule waits for some state
pub record Waits (w : QueueOf) (n : ℕ) : Type 0 where
  pub state : ℕ
  pub waiting : Waiting
  pub stands : Has (waiting_at w state) waiting
  pub is : waiting.rule ≡ n

-- a rule's first candidate waits in the heap
pub record IsBegun (x : ListsOf) (w : QueueOf) (n : ℕ) : Type 0 where
  pub candidate : ℕ
  pub stands : Has w.heap candidate
  pub is : (candidate_at x candidate).rule ≡ n

-- the states of a rule all have trees, and its first candidate waits in the heap if it can give a
-- state its first tree
pub record IsPassed (product : ℕ → ℕ → ℕ) (x : ListsOf) (w : QueueOf) (n : ℕ) : Type 0 where
  pub all : HasTrees x (states_of (rule_at x.rules n)) (length (states_of (rule_at x.rules n)))
  pub begun : IsReady product x.rules (entries_of x) n → IsBegun x w n

-- Each rule that is not left out waits for a state, or its states all have trees. Each list is a
-- front of the state's trees, and has at most one tree, which its first candidate gave it.
pub record IsQueue (product : ℕ → ℕ → ℕ) (x : ListsOf) (w : QueueOf) (out : List ℕ) : Type 0 where
  pub sound : IsSound x
  pub made : (n : ℕ) → n < length x.candidates → IsMade product x n
  pub long : length w.waiting ≡ length x.lists
  pub placed : (q : ℕ) (a : Waiting) → Has (waiting_at w q) a → IsWaiting x q a
  pub heap : IsHeap (λ a b. offers_cmp x.labels (stands_for x a) (stands_for x b)) w.heap
  pub below : (m : ℕ) → Has w.heap m → m < length x.candidates
  pub first : (m : ℕ) → Has w.heap m →
      ranks_of x (candidate_at x m) ≡ zeros (states_of (rule_at x.rules (candidate_at x m).rule))
  pub each : (n : ℕ) → n < length x.rules →
      Has out n ⊎ (Waits w n ⊎ IsPassed product x w n)
  pub fronts : (q : ℕ) → IsFrontAt product x.labels x.rules q (entries_of x q)
  pub few : (q : ℕ) → length (list_of x q) ≤ 1
  pub from : (q : ℕ) → 0 < length (list_of x q) → IsFromFirst x q (entry_at x q 0)

-- the rules before the n-th, the last first
abbrev pub rules_before : ℕ → List ℕ
rules_before zero = []
rules_before (suc n) = n ∷ rules_before n

-- how many rules wait, and how many candidates
abbrev pub left_over : QueueOf → ℕ
left_over w = sum_by length w.waiting + length w.heap

-- a rule was taken from those that wait for a state
pub record IsPopped (w : QueueOf) (q : ℕ) (a : Waiting) (v : QueueOf) : Type 0 where
  pub was : waiting_at w q ≡ waiting_at v q ++ a ∷ []
  pub rest : v ≡ record w { waiting = set w.waiting q (waiting_at v q) }

-- nothing waits for q now, and what waits for other states with trees is as before
pub record IsReleased (x : ListsOf) (w : QueueOf) (q : ℕ) (v : QueueOf) : Type 0 where
  pub none : waiting_at v q ≡ []
  pub others : (p : ℕ) → (p ≡ q → ⊥) → 0 < length (list_of x p) → waiting_at v p ≡ waiting_at w p

-- a queue in which no rule is left out, and nothing waits for a state that has a tree
pub record IsSettled (product : ℕ → ℕ → ℕ) (x : ListsOf) (w : QueueOf) : Type 0 where
  pub queue : IsQueue product x w []
  pub settled : (q : ℕ) → 0 < length (list_of x q) → waiting_at w q ≡ []

-- the least candidate m was taken from the heap
pub record IsTaken (product : ℕ → ℕ → ℕ) (x : ListsOf) (m : ℕ) (w : QueueOf) : Type 0 where
  pub heap : List ℕ
  pub settled : IsSettled product x (record { waiting = w.waiting; heap = heap })
  pub takes : TakesFirst (λ a b. offers_cmp x.labels (stands_for x a) (stands_for x b)) heap m w.heap
  pub is_heap : IsHeap (λ a b. offers_cmp x.labels (stands_for x a) (stands_for x b)) w.heap

-- the state on the left-hand side of a candidate's rule
abbrev pub state_of : ListsOf → ℕ → ℕ
state_of x m = (rule_at x.rules (candidate_at x m).rule).left

-- a candidate's tree was appended to the list of its state
pub record IsListed (x : ListsOf) (m : ℕ) (y : ListsOf) : Type 0 where
  pub middle : ListsOf
  pub number : ℕ
  pub has : HasNumber x (tree_by x (candidate_at x m).rule (ranks_of x (candidate_at x m))) number middle
  pub put : y ≡ with_entry middle (state_of x m) (record { tree = number; cost = (candidate_at x m).cost; candidate = m })
