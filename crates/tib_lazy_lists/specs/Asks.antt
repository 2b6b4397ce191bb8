-- What is kept of each state while lists grow where a tree is asked for (Huang and Chiang 2005).
use Rattle.std.specs.Prelude.{◌≡◌, ◌⊎◌, ℕ, ◌^◌, ◌+◌, ◌<◌, ◌≤◌, List, [], ◌∷◌, ◌++◌, length, sum_by, Option, None, Some}
use Rattle.std.proofs.Common.{suc, get_or}
use Rattle.std.proofs.Math.ListN.{set}
use Rattle.tib_lex.specs.Lists.{Has, Distinct}
use Rattle.tib_tree.specs.Trees.{Tree}
use Rattle.tib_grammar.specs.Run.{rule_at}
use Rattle.tib_grammar.specs.declared.Rule.{Rule}
use Rattle.tib_ranked_trees.specs.Heaps.{IsHeap, TakesFirst}
use Rattle.tib_ranked_trees.specs.Best.{IsFrontAt}
use Rattle.tib_ranked_trees.specs.Lazy.{IsFrom, IsKept, IsWhole}
use Rattle.tib_ranked_trees.specs.Pass.{HasTree, zeros}
use Rattle.tib_ranked_trees.specs.Pass as pass
use Rattle.tib_ranked_trees.specs.ListsOf.{ListsOf}
use Rattle.tib_ranked_trees.specs.Seen.{tree_at}
use Rattle.tib_ranked_trees.specs.Held.{list_of, entry_at, entries_of, candidate_at, tuple_of, ranks_of, rule_of, below_of, tree_by, with_trees, with_entry, HasNumber}
use Rattle.tib_ranked_trees.specs.declared.lists.Candidate.{Candidate}
use Rattle.tib_lazy_lists.specs.declared.asking.Stage.{Stage}
use Rattle.tib_lazy_lists.specs.declared.asking.Stage.TheVariants.{Closed, Open, Whole}
use Rattle.tib_lazy_lists.specs.Offers.{room, tuples, order_of, AreSound, IsHeld, AreStarted, AreMoreCandidates, AreOpened}
use Rattle.tib_lazy_lists.specs.AskingOf.{StateOf, AskingOf, state_at}

-- A state that has its first tree alone, of a candidate with ranks 0, and no candidate that waits.
pub record IsClosed (x : ListsOf) (u : ℕ) (s : StateOf) : Type 0 where
  pub last : s.last < length x.candidates
  pub left : (rule_of x (candidate_at x s.last)).left ≡ u
  pub first : ranks_of x (candidate_at x s.last) ≡ zeros (below_of x (candidate_at x s.last))
  pub listed : HasTree (entries_of x u) (tree_by x (candidate_at x s.last).rule (ranks_of x (candidate_at x s.last)))
  pub few : length (list_of x u) ≤ 1
  pub empty : s.heap ≡ []

-- Of the candidates that wait and those that were taken none is there twice, and each listed tree
-- came from one that was taken.
pub record AreOnce (product : ℕ → ℕ → ℕ) (x : ListsOf) (u : ℕ) (taken held : List pass.Candidate) : Type 0 where
  pub once : Distinct (held ++ taken)
  pub from : (t : Tree ℕ) → HasTree (entries_of x u) t → IsFrom product x.rules (entries_of x) taken t

-- The candidate before each that is known, with its last rank that is not 0 lowered by one, has its
-- followers.
abbrev pub ArePreceded : List pass.Candidate → List pass.Candidate → Type 0
ArePreceded asked_for known = (n : ℕ) (front : List ℕ) (j : ℕ) (back : List ℕ) → Has known (n, front ++ suc j ∷ zeros back) → Has asked_for (n, front ++ j ∷ zeros back)

-- A state that took candidates. The last one has no followers yet.
pub record IsOpen (product : ℕ → ℕ → ℕ) (k : ℕ) (x : ListsOf) (u : ℕ) (s : StateOf) : Type 0 where
  pub last : s.last < length x.candidates
  pub heap : IsHeap (order_of x) s.heap
  pub below : (m : ℕ) → Has s.heap m → m < length x.candidates
  pub older : List pass.Candidate
  pub kept : IsKept product x.rules k (entries_of x) older (tuple_of x s.last ∷ older) (tuples x s.heap) u
  pub preceded : ArePreceded older (tuple_of x s.last ∷ older)
  pub waits : ArePreceded older (tuples x s.heap)
  pub single : AreOnce product x u (tuple_of x s.last ∷ older) (tuples x s.heap)

-- what a state keeps between two asks
abbrev pub IsAtStage : (ℕ → ℕ → ℕ) → ℕ → ListsOf → ℕ → StateOf → Stage → Type 0
IsAtStage product k x u s Closed = IsClosed x u s
IsAtStage product k x u s Open = IsOpen product k x u s
IsAtStage product k x u s Whole = IsWhole product x.rules (entries_of x) u

abbrev pub IsState : (ℕ → ℕ → ℕ) → ℕ → ListsOf → ℕ → StateOf → Type 0
IsState product k x u s = IsAtStage product k x u s s.stage

-- what it keeps while it is asked: each candidate that it took has its followers
pub record IsAskedFor (product : ℕ → ℕ → ℕ) (k : ℕ) (x : ListsOf) (u : ℕ) (heap : List ℕ) : Type 0 where
  pub below : (m : ℕ) → Has heap m → m < length x.candidates
  pub taken : List pass.Candidate
  pub kept : IsKept product x.rules k (entries_of x) taken taken (tuples x heap) u
  pub preceded : ArePreceded taken taken
  pub waits : ArePreceded taken (tuples x heap)
  pub single : AreOnce product x u taken (tuples x heap)

-- a state has an entry after a rank, or never will, or needs none
abbrev pub IsAnswered : (ℕ → ℕ → ℕ) → ℕ → ListsOf → ℕ → ℕ → Type 0
IsAnswered product k x q j = (j + 1 < length (list_of x q)) ⊎ (IsWhole product x.rules (entries_of x) q ⊎ (k ≤ length (list_of x q)))

-- so has each of the first n states below a candidate
abbrev pub AreAnswered : (ℕ → ℕ → ℕ) → ℕ → ListsOf → Candidate → ℕ → Type 0
AreAnswered product k x c n = (i : ℕ) → i < n → IsAnswered product k x (get_or (below_of x c) i 0) (get_or (ranks_of x c) i 0)

-- the pairs of states and trees are those of the lists
pub record AreListed (x : ListsOf) (pairs : List (ℕ × ℕ)) : Type 0 where
  pub to : (q j : ℕ) → j < length (list_of x q) → Has pairs (q, (entry_at x q j).tree)
  pub from : (q n : ℕ) → Has pairs (q, n) → (j : ℕ) × (j < length (list_of x q)) × ((entry_at x q j).tree ≡ n)

-- the rules of each state, each once
pub record AreByState (rules : List (Rule ℕ)) (by_state : List (List ℕ)) : Type 0 where
  pub each : (n : ℕ) → n < length rules → Has (get_or by_state (rule_at rules n).left []) n
  pub only : (q n : ℕ) → Has (get_or by_state q []) n → (n < length rules) × ((rule_at rules n).left ≡ q)
  pub once : (q : ℕ) → Distinct (get_or by_state q [])

-- What is kept while lists grow: each list is a front of its state's trees and has at most k of
-- them, and each state but one keeps what it keeps between two asks.
pub record IsAskingBut (product : ℕ → ℕ → ℕ) (x : ListsOf) (a : AskingOf) (but : ℕ) : Type 0 where
  pub lists : AreSound product x
  pub started : AreStarted x
  pub fronts : (q : ℕ) → IsFrontAt product x.labels x.rules q (entries_of x q)
  pub few : (q : ℕ) → length (list_of x q) ≤ a.k
  pub small : a.k < 2 ^ 32
  pub long : length a.states ≡ length x.lists
  pub many : length a.by_state ≡ length x.lists
  pub by_state : AreByState x.rules a.by_state
  pub listed : AreListed x a.listed
  pub states : (q : ℕ) → q < length a.states → (q ≡ but) ⊎ IsState product a.k x q (state_at a q)

abbrev pub IsAsking : (ℕ → ℕ → ℕ) → ListsOf → AskingOf → Type 0
IsAsking product x a = IsAskingBut product x a (length a.states)

-- one state keeps something else, and nothing else was changed
abbrev pub with_state : AskingOf → ℕ → StateOf → AskingOf
with_state a q s = record a { states = set a.states q s }

-- rules, labels and the labels' places are as before
pub record StaysGrammar (x y : ListsOf) : Type 0 where
  pub rules : y.rules ≡ x.rules
  pub labels : y.labels ≡ x.labels
  pub label_ranks : y.label_ranks ≡ x.label_ranks
  pub states : length y.lists ≡ length x.lists

-- a state's rules, each once, in any order
pub record AreRulesOf (rules : List (Rule ℕ)) (u : ℕ) (ns : List ℕ) : Type 0 where
  pub each : (n : ℕ) → n < length rules → (rule_at rules n).left ≡ u → Has ns n
  pub only : (n : ℕ) → Has ns n → (n < length rules) × ((rule_at rules n).left ≡ u)
  pub once : Distinct ns

-- the first candidates of a state's rules were offered, or had been before
pub record IsOpened (product : ℕ → ℕ → ℕ) (x : ListsOf) (rules : List ℕ) (s : StateOf) (y : ListsOf) (t : StateOf) : Type 0 where
  pub last : t.last ≡ s.last
  pub held : IsHeld product y t.heap
  pub more : AreMoreCandidates x y
  pub count : room y + length t.heap ≤ room x + length s.heap
  pub how : ((s.stage ≡ Closed) × (t.stage ≡ Open) × AreOpened product x rules (candidate_at x s.last).rule (length rules) s.heap y t.heap)
      ⊎ ((s.stage ≡ Closed → ⊥) × (t.stage ≡ s.stage) × (t.heap ≡ s.heap) × (y ≡ x))

-- a state may take a candidate: its list is not complete, and the states below its last candidate
-- were asked
pub record CanTake (product : ℕ → ℕ → ℕ) (k : ℕ) (x : ListsOf) (u : ℕ) (rules : List ℕ) (s : StateOf) : Type 0 where
  pub state : IsState product k x u s
  pub left : s.stage ≡ Whole → ⊥
  pub rules_of : AreRulesOf x.rules u rules
  pub answered : AreAnswered product k x (candidate_at x s.last) (length (below_of x (candidate_at x s.last)))

-- the least of the candidates that waited was taken, or none waited
abbrev pub IsDrawnFrom : ListsOf → List ℕ → StateOf → Option ℕ → Type 0
IsDrawnFrom y heap t None = (heap ≡ []) × (t.stage ≡ Whole)
IsDrawnFrom y heap t (Some m) = (t.stage ≡ Open) × (t.last ≡ m) × IsHeap (order_of y) t.heap × TakesFirst (order_of y) heap m t.heap × (length t.heap + 1 ≡ length heap)

-- how often a state may still take a candidate, or find none: once for each that waits, and once
-- more while its list is not complete
abbrev pub turns_at : Stage → ℕ → ℕ
turns_at Closed n = suc n
turns_at Open n = suc n
turns_at Whole n = 0

abbrev pub turns_of : StateOf → ℕ
turns_of s = turns_at s.stage (length s.heap)

-- the same for all states, with the candidates that may still be made
abbrev pub turns_left : ListsOf → AskingOf → ℕ
turns_left x a = room x + sum_by turns_of a.states

-- the candidates that follow the last one were offered, and then the least was taken
pub record IsDrawn (product : ℕ → ℕ → ℕ) (x : ListsOf) (rules : List ℕ) (s : StateOf) (y : ListsOf) (t : StateOf) (o : Option ℕ) : Type 0 where
  pub lists : AreSound product y
  pub more : AreMoreCandidates x y
  pub waited : List ℕ
  pub drawn : (s.stage ≡ Whole → ⊥) → IsDrawnFrom y waited t o
  pub fewer : (s.stage ≡ Whole → ⊥) → room y + turns_of t < room x + turns_of s
  pub asked : (k u : ℕ) → CanTake product k x u rules s → IsAskedFor product k y u waited

-- A state took a candidate. Its tree is not listed yet, if it is new.
pub record IsTaking (product : ℕ → ℕ → ℕ) (x : ListsOf) (a : AskingOf) (u m : ℕ) : Type 0 where
  pub others : IsAskingBut product x a u
  pub inside : u < length a.states
  pub free : length (list_of x u) < a.k
  pub waited : List ℕ
  pub asked : IsAskedFor product a.k x u waited
  pub drawn : IsDrawnFrom x waited (state_at a u) (Some m)

-- what is kept once a state was asked for a candidate
abbrev pub HasDrawn : (ℕ → ℕ → ℕ) → ListsOf → AskingOf → ℕ → Option ℕ → Type 0
HasDrawn product x a u None = IsAsking product x a
HasDrawn product x a u (Some m) = IsTaking product x a u m

-- as many trees are asked for, from as many states
pub record StaysAsking (a b : AskingOf) : Type 0 where
  pub k : b.k ≡ a.k
  pub states : length b.states ≡ length a.states

-- a pair was noted in addition to others
pub record IsNoted (pairs : List (ℕ × ℕ)) (p : ℕ × ℕ) (now : List (ℕ × ℕ)) : Type 0 where
  pub to : (z : ℕ × ℕ) → Has pairs z → Has now z
  pub new : Has now p
  pub from : (z : ℕ × ℕ) → Has now z → Has pairs z ⊎ (z ≡ p)

-- A candidate's tree was appended to the list of a state, if it had not been listed.
pub record IsListing (x : ListsOf) (u m : ℕ) (pairs : List (ℕ × ℕ)) (y : ListsOf) (now : List (ℕ × ℕ)) : Type 0 where
  pub trees : List (Tree ℕ)
  pub number : ℕ
  pub has : HasNumber x (tree_by x (candidate_at x m).rule (ranks_of x (candidate_at x m))) number (with_trees x trees)
  pub distinct : (i j : ℕ) → i < length trees → j < length trees → tree_at trees i ≡ tree_at trees j → i ≡ j
  pub noted : IsNoted pairs (u, number) now
  pub how : ((y ≡ with_trees x trees) × Has pairs (u, number))
      ⊎ ((y ≡ with_entry (with_trees x trees) u (record { tree = number; cost = (candidate_at x m).cost; candidate = m })) × (Has pairs (u, number) → ⊥))
