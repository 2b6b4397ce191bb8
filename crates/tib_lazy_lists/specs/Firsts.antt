-- What is there once the states have their first trees.
use Rattle.std.specs.Prelude.{◌≡◌, ℕ, ◌<◌, ◌≤◌, [], length}
use Rattle.std.proofs.Common.{get_or}
use Rattle.tib_cost.specs.Semiring.{most}
use Rattle.tib_grammar.specs.Run.{rule_at}
use Rattle.tib_ranked_trees.specs.Best.{Costed, IsTreeAt, IsFrontAt}
use Rattle.tib_ranked_trees.specs.Levels.{states_of}
use Rattle.tib_ranked_trees.specs.Pass.{zeros}
use Rattle.tib_ranked_trees.specs.ListsOf.{ListsOf}
use Rattle.tib_ranked_trees.specs.Held.{list_of, entry_at, entries_of, told, candidate_at, ranks_of, stands_for, IsSound, IsCandidate, IsPriced}
use Rattle.tib_ranked_trees.specs.declared.lists.Entry.{Entry}

-- a candidate that was made
pub record IsMade (product : ℕ → ℕ → ℕ) (x : ListsOf) (n : ℕ) : Type 0 where
  pub is : IsCandidate x (candidate_at x n)
  pub priced : IsPriced product x (candidate_at x n)
  pub within : (candidate_at x n).cost ≤ most

-- an entry of a state came from a candidate of one of its rules, with ranks 0
pub record IsFromFirst (x : ListsOf) (q : ℕ) (e : Entry) : Type 0 where
  pub below : e.candidate < length x.candidates
  pub left : (rule_at x.rules (candidate_at x e.candidate).rule).left ≡ q
  pub first : ranks_of x (candidate_at x e.candidate) ≡ zeros (states_of (rule_at x.rules (candidate_at x e.candidate).rule))
  pub same : told x.trees e ≡ stands_for x e.candidate

-- What is there once the states have their first trees: each state has one, or has no tree at all.
pub record AreFirsts (product : ℕ → ℕ → ℕ) (x : ListsOf) : Type 0 where
  pub sound : IsSound x
  pub made : (n : ℕ) → n < length x.candidates → IsMade product x n
  pub fronts : (q : ℕ) → IsFrontAt product x.labels x.rules q (entries_of x q)
  pub few : (q : ℕ) → length (list_of x q) ≤ 1
  pub from : (q : ℕ) → 0 < length (list_of x q) → IsFromFirst x q (entry_at x q 0)
  pub none : (q : ℕ) → list_of x q ≡ [] → (y : Costed) → IsTreeAt product x.rules q y → ⊥

-- each state below a rule has a tree
abbrev pub AreTrimmed : ListsOf → Type 0
AreTrimmed x = (n : ℕ) → n < length x.rules → (i : ℕ) → i < length (states_of (rule_at x.rules n)) → 0 < length (list_of x (get_or (states_of (rule_at x.rules n)) i 0))
