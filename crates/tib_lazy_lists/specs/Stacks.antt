-- States that are to be asked.
use Rattle.std.specs.Prelude.{◌≡◌, ◌⊎◌, ℕ, ◌≤◌, ◌+◌, ◌*◌, ◌<◌, List, [], ◌∷◌, length, min, Option, None, Some}
use Rattle.std.proofs.Common.{suc}
use Rattle.tib_lex.specs.Lists.{Has}
use Rattle.tib_tree.specs.Trees.{size}
use Rattle.tib_ranked_trees.specs.Best.{Costed}
use Rattle.tib_ranked_trees.specs.ListsOf.{ListsOf}
use Rattle.tib_ranked_trees.specs.Held.{list_of, entries_of, candidate_at, below_of}
use Rattle.tib_lazy_lists.specs.declared.asking.Stage.TheVariants.{Whole}
use Rattle.tib_lazy_lists.specs.declared.walking.Question.{Question}
use Rattle.tib_lazy_lists.specs.AskingOf.{AskingOf, state_at}
use Rattle.tib_lazy_lists.specs.Asks.{AreAnswered}

-- each is one of the first n states
abbrev pub AreBelow : ℕ → List Question → Type 0
AreBelow n stack = (q : Question) → Has stack q → q.state < n

-- A state is to be asked: it took no candidate since, and its list is neither complete nor full.
pub record IsToAsk (x : ListsOf) (a : AskingOf) (q : Question) : Type 0 where
  pub state : q.state < length a.states
  pub left : (state_at a q.state).stage ≡ Whole → ⊥
  pub last : q.last ≡ (state_at a q.state).last
  pub free : length (list_of x q.state) < a.k

-- how many nodes the smallest tree of a list has
abbrev pub least_size : List Costed → ℕ
least_size [] = 0
least_size (x ∷ []) = size x.0
least_size (x ∷ y ∷ ys) = min (size x.0) (least_size (y ∷ ys))

-- How many trees a state lists, and then how large the smallest one is: this falls on the way down.
abbrev pub standing : ListsOf → ℕ → ℕ
standing x q = length (entries_of x q) * 10001 + least_size (entries_of x q)

-- Of the first n states below the last candidate of a state, each is answered, or one is the next
-- to be asked.
abbrev pub IsNextBelow : (ℕ → ℕ → ℕ) → ListsOf → AskingOf → Question → ℕ → Option Question → Type 0
IsNextBelow product x a above n None = AreAnswered product a.k x (candidate_at x above.last) n
IsNextBelow product x a above n (Some q) = IsToAsk x a q × (standing x q.state < standing x above.state)

-- a state may take a candidate
pub record IsReadyToTake (product : ℕ → ℕ → ℕ) (x : ListsOf) (a : AskingOf) (u : ℕ) : Type 0 where
  pub state : u < length a.states
  pub left : (state_at a u).stage ≡ Whole → ⊥
  pub free : length (list_of x u) < a.k
  pub answered : AreAnswered product a.k x (candidate_at x (state_at a u).last) (length (below_of x (candidate_at x (state_at a u).last)))

-- how far down the way may still go
abbrev pub way_left : ListsOf → Option Question → ℕ
way_left x None = 0
way_left x (Some q) = suc (standing x q.state)

-- a state is done: it has as many trees as are asked for, or all
abbrev pub IsDone : ListsOf → AskingOf → ℕ → Type 0
IsDone x a q = (a.k ≤ length (list_of x q)) ⊎ ((state_at a q).stage ≡ Whole)
