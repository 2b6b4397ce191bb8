-- What a heap of candidates holds, and what is put into it.
use Rattle.std.specs.Prelude.{◌≡◌, ◌⊎◌, ℕ, ◌+◌, ◌-◌, ◌^◌, ◌<◌, ◌≤◌, List, ◌++◌, length, map}
use Rattle.std.proofs.Common.{get_or}
use Rattle.std.specs.declared.cmp.Ordering.{Ordering}
use Rattle.tib_lex.specs.Lists.{Has, Distinct}
use Rattle.tib_cost.specs.Semiring.{most}
use Rattle.tib_ranked_trees.specs.Heaps.{IsHeap}
use Rattle.tib_ranked_trees.specs.Levels.{states_at}
use Rattle.tib_ranked_trees.specs.Pass.{AreRanks, zeros_at, offer}
use Rattle.tib_ranked_trees.specs.Pass as pass
use Rattle.tib_ranked_trees.specs.ListsOf.{ListsOf}
use Rattle.tib_ranked_trees.specs.Held.{list_of, entries_of, tuple_of, ranks_of, below_of, raise, stands_for, offers_cmp, grown, IsLast, IsSound}
use Rattle.tib_ranked_trees.specs.declared.lists.Candidate.{Candidate}
use Rattle.tib_lazy_lists.specs.Firsts.{IsMade}

-- candidates by their numbers, as rules with ranks
abbrev pub tuples : ListsOf → List ℕ → List pass.Candidate
tuples x ms = map (tuple_of x) ms

-- the order of two candidates
abbrev pub order_of : ListsOf → ℕ → ℕ → Ordering
order_of x a b = offers_cmp x.labels (stands_for x a) (stands_for x b)

-- lists that are sound, each of whose candidates was made
pub record AreSound (product : ℕ → ℕ → ℕ) (x : ListsOf) : Type 0 where
  pub sound : IsSound x
  pub made : (n : ℕ) → n < length x.candidates → IsMade product x n

-- a heap of candidates of sound lists
pub record IsHeld (product : ℕ → ℕ → ℕ) (x : ListsOf) (heap : List ℕ) : Type 0 where
  pub lists : AreSound product x
  pub is_heap : IsHeap (order_of x) heap
  pub below : (m : ℕ) → Has heap m → m < length x.candidates

-- candidates and ranks were appended, and nothing else was changed
pub record AreMoreCandidates (x y : ListsOf) : Type 0 where
  pub same : y ≡ grown x x.trees x.lists y.candidates y.ranks
  pub candidates : (more : List Candidate) × (y.candidates ≡ x.candidates ++ more)
  pub ranks : (more : List ℕ) × (y.ranks ≡ x.ranks ++ more)

-- how many candidates may still be made: their numbers have 32 bits
abbrev pub room : ListsOf → ℕ
room x = 2 ^ 32 - length x.candidates

-- A rule with ranks was offered to a heap if `When` holds. The heap then has it, unless it costs
-- more than the greatest cost. If it was new, no candidate is there twice that was not before.
pub record IsOffered (product : ℕ → ℕ → ℕ) (When : Type 0) (x : ListsOf) (n : ℕ) (js heap : List ℕ) (y : ListsOf) (now : List ℕ) : Type 0 where
  pub held : IsHeld product y now
  pub more : AreMoreCandidates x y
  pub to : (z : pass.Candidate) → Has (tuples x heap) z → Has (tuples y now) z
  pub from : (z : pass.Candidate) → Has (tuples y now) z → Has (tuples x heap) z ⊎ (z ≡ (n, js))
  pub count : room y + length now ≤ room x + length heap
  pub there : When → (offer product x.rules (entries_of x) n js).1 ≤ most → Has (tuples y now) (n, js)
  pub once : (taken : List pass.Candidate) → (Has (tuples x heap ++ taken) (n, js) → ⊥) → Distinct (tuples x heap ++ taken) → Distinct (tuples y now ++ taken)

-- each state below a rule has its first tree
abbrev pub AreStarted : ListsOf → Type 0
AreStarted x = (n : ℕ) → n < length x.rules → AreRanks (entries_of x) (states_at x.rules n) (zeros_at x.rules n)

-- The first candidates of the first n rules of a list, except that of one rule, were offered to a
-- heap.
pub record AreOpened (product : ℕ → ℕ → ℕ) (x : ListsOf) (rules : List ℕ) (but n : ℕ) (heap : List ℕ) (y : ListsOf) (now : List ℕ) : Type 0 where
  pub held : IsHeld product y now
  pub more : AreMoreCandidates x y
  pub to : (z : pass.Candidate) → Has (tuples x heap) z → Has (tuples y now) z
  pub from : (z : pass.Candidate) → Has (tuples y now) z → Has (tuples x heap) z ⊎ ((i : ℕ) × (i < n) × (z ≡ (get_or rules i 0, zeros_at x.rules (get_or rules i 0))))
  pub count : room y + length now ≤ room x + length heap
  pub there : (i : ℕ) → i < n → (get_or rules i 0 ≡ but) ⊎
      ((offer product x.rules (entries_of x) (get_or rules i 0) (zeros_at x.rules (get_or rules i 0))).1 ≤ most → Has (tuples y now) (get_or rules i 0, zeros_at x.rules (get_or rules i 0)))
  pub once :
      Distinct rules → (taken : List pass.Candidate) →
      ((i : ℕ) → i < length rules → (get_or rules i 0 ≡ but → ⊥) → Has (tuples x heap ++ taken) (get_or rules i 0, zeros_at x.rules (get_or rules i 0)) → ⊥) →
      Distinct (tuples x heap ++ taken) → Distinct (tuples y now ++ taken)

-- The candidates with the i-th rank of a candidate raised by one were offered to a heap, for each i
-- from the first to below n, where there is such an entry.
pub record AreFollowed (product : ℕ → ℕ → ℕ) (x : ListsOf) (c : Candidate) (first n : ℕ) (heap : List ℕ) (y : ListsOf) (now : List ℕ) : Type 0 where
  pub held : IsHeld product y now
  pub more : AreMoreCandidates x y
  pub to : (z : pass.Candidate) → Has (tuples x heap) z → Has (tuples y now) z
  pub from : (z : pass.Candidate) → Has (tuples y now) z → Has (tuples x heap) z ⊎ ((i : ℕ) × (first ≤ i) × (i < length (below_of x c)) × (i < n) × (z ≡ (c.rule, raise i (ranks_of x c))))
  pub count : room y + length now ≤ room x + length heap
  pub there : (i : ℕ) → first ≤ i → i < n → get_or (ranks_of x c) i 0 + 1 < length (list_of x (get_or (below_of x c) i 0)) →
      (offer product x.rules (entries_of x) c.rule (raise i (ranks_of x c))).1 ≤ most → Has (tuples y now) (c.rule, raise i (ranks_of x c))
  pub once :
      (taken : List pass.Candidate) → ((i : ℕ) → first ≤ i → i < length (below_of x c) → Has (tuples x heap ++ taken) (c.rule, raise i (ranks_of x c)) → ⊥) →
      Distinct (tuples x heap ++ taken) → Distinct (tuples y now ++ taken)

-- all candidates that follow one were offered
pub record HasFollowers (product : ℕ → ℕ → ℕ) (x : ListsOf) (c : Candidate) (heap : List ℕ) (y : ListsOf) (now : List ℕ) : Type 0 where
  pub first : ℕ
  pub is_last : IsLast (ranks_of x c) first
  pub followed : AreFollowed product x c first (length (below_of x c)) heap y now
