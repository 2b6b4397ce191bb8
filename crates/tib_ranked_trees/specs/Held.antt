-- What the numbers in lists of best trees stand for.
use Rattle.std.specs.Prelude.{◌≡◌, ◌⊎◌, ℕ, ◌^◌, ◌<◌, ◌≤◌, List, [], ◌∷◌, ◌++◌, length, map, take, drop, replicate, Option, None, Some}
use Rattle.std.proofs.Common.{zero, suc, get_or}
use Rattle.std.proofs.Math.ListN.{set}
use Rattle.std.specs.declared.cmp.Ordering.{Ordering}
use Rattle.std.specs.Ordering.{nat_cmp, ordering_then}
use Rattle.tib_cost.specs.Semiring.{most}
use Rattle.tib_tree.specs.Order.{tree_cmp_by}
use Rattle.tib_ranked_trees.specs.Ranked.{AreRanksOf}
use Rattle.tib_tree.specs.Trees.{Tree, only, size, most_nodes}
use Rattle.tib_tree.specs.Growth.{LabelsBelow}
use Rattle.tib_tree.specs.Grows.{AreDistinct}
use Rattle.tib_grammar.specs.Forms.{AreNormal}
use Rattle.tib_grammar.specs.Range.{AreInRange}
use Rattle.tib_grammar.specs.Run.{rule_at}
use Rattle.tib_grammar.specs.declared.Rule.{Rule}
use Rattle.tib_grammar_file.specs.Printed.{AreLabelled}
use Rattle.tib_ranked_trees.specs.Levels.{root_of, trees_of, states_of}
use Rattle.tib_ranked_trees.specs.Pass.{Entries, AreRanks, picked, offer}
use Rattle.tib_ranked_trees.specs.Seen.{tree_at, AreStill}
use Rattle.tib_ranked_trees.specs.ListsOf.{ListsOf}
use Rattle.tib_ranked_trees.specs.declared.lists.Entry.{Entry}
use Rattle.tib_ranked_trees.specs.declared.lists.Candidate.{Candidate}

-- what is read past an end
abbrev pub no_entry : Entry
no_entry = record { tree = 0; cost = 0; candidate = 0 }

abbrev pub no_candidate : Candidate
no_candidate = record { rule = 0; start = 0; cost = 0; size = 0 }

-- the list of a state, and its entry with a rank
abbrev pub list_of : ListsOf → ℕ → List Entry
list_of x q = get_or x.lists q []

abbrev pub entry_at : ListsOf → ℕ → ℕ → Entry
entry_at x q j = get_or (list_of x q) j no_entry

-- an entry as a tree with its cost
abbrev pub told : List (Tree ℕ) → Entry → Tree ℕ × ℕ
told trees e = (tree_at trees e.tree, e.cost)

-- the lists as trees with costs
abbrev pub entries_of : ListsOf → Entries
entries_of x q = map (told x.trees) (list_of x q)

-- the rule of a candidate, and the states below it
abbrev pub rule_of : ListsOf → Candidate → Rule ℕ
rule_of x c = rule_at x.rules c.rule

abbrev pub below_of : ListsOf → Candidate → List ℕ
below_of x c = states_of (rule_of x c)

-- as many ranks from a place on as the rule has states
abbrev pub ranks_from : ListsOf → ℕ → ℕ → List ℕ
ranks_from x n start = take (length (states_of (rule_at x.rules n))) (drop start x.ranks)

abbrev pub ranks_of : ListsOf → Candidate → List ℕ
ranks_of x c = ranks_from x c.rule c.start

-- the tree that a rule makes of the entries with these ranks
abbrev pub tree_by : ListsOf → ℕ → List ℕ → Tree ℕ
tree_by x n js =
    record { label = root_of (rule_at x.rules n).right.label; kids = trees_of (picked (entries_of x) (states_of (rule_at x.rules n)) js) }

-- a candidate by its number, and what it stands for
abbrev pub candidate_at : ListsOf → ℕ → Candidate
candidate_at x n = get_or x.candidates n no_candidate

abbrev pub tuple_of : ListsOf → ℕ → ℕ × List ℕ
tuple_of x n = ((candidate_at x n).rule, ranks_of x (candidate_at x n))

abbrev pub stands_for : ListsOf → ℕ → Tree ℕ × ℕ
stands_for x n = (tree_by x (candidate_at x n).rule (ranks_of x (candidate_at x n)), (candidate_at x n).cost)

-- Rules in normal form, whose states have lists and whose labels have places in order. The trees of
-- the lists are there, each over these labels and of at most 10,000 nodes. Each list has fewer than
-- 2^32.
pub record IsSound (x : ListsOf) : Type 0 where
  pub normal : AreNormal x.rules
  pub range : AreInRange (length x.lists) x.rules
  pub rules_labelled : AreLabelled (length x.labels) x.rules
  pub distinct : AreDistinct x.labels
  pub ranked : AreRanksOf x.labels x.label_ranks
  pub listed : (q j : ℕ) → j < length (list_of x q) → (entry_at x q j).tree < length x.trees
  pub labelled : (n : ℕ) → n < length x.trees → LabelsBelow (length x.labels) (only (tree_at x.trees n))
  pub few : (q : ℕ) → length (list_of x q) < 2 ^ 32
  pub small : (n : ℕ) → n < length x.trees → size (tree_at x.trees n) ≤ most_nodes

-- a rule with ranks for its states, each with an entry
pub record IsTuple (x : ListsOf) (n : ℕ) (js : List ℕ) : Type 0 where
  pub rule : n < length x.rules
  pub ranks : AreRanks (entries_of x) (states_of (rule_at x.rules n)) js

-- a candidate names entries, and says how many nodes its tree has
pub record IsCandidate (x : ListsOf) (c : Candidate) : Type 0 where
  pub tuple : IsTuple x c.rule (ranks_of x c)
  pub size : c.size ≡ size (tree_by x c.rule (ranks_of x c))

-- it says what its tree costs
abbrev pub IsPriced : (ℕ → ℕ → ℕ) → ListsOf → Candidate → Type 0
IsPriced product x c = (offer product x.rules (entries_of x) c.rule (ranks_of x c)).1 ≡ c.cost

-- lists with more ranks, one more candidate, or one more entry of a state
abbrev pub with_ranks : ListsOf → List ℕ → ListsOf
with_ranks x js = record x { ranks = x.ranks ++ js }

abbrev pub with_candidate : ListsOf → Candidate → ListsOf
with_candidate x c = record x { candidates = x.candidates ++ c ∷ [] }

abbrev pub with_entry : ListsOf → ℕ → Entry → ListsOf
with_entry x q e = record x { lists = set x.lists q (list_of x q ++ e ∷ []) }

abbrev pub with_trees : ListsOf → List (Tree ℕ) → ListsOf
with_trees x ts = record x { trees = ts }

-- the i-th number raised by one
abbrev pub raise : ℕ → List ℕ → List ℕ
raise i [] = []
raise zero (j ∷ js) = suc j ∷ js
raise (suc i) (j ∷ js) = j ∷ raise i js

-- A rule and ranks were made a candidate, which is the last one, or what it stands for costs more
-- than the greatest cost.
abbrev pub Makes : (ℕ → ℕ → ℕ) → ListsOf → ℕ → ℕ → Option ℕ → ListsOf → Type 0
Makes product x n start None y = (most < (offer product x.rules (entries_of x) n (ranks_from x n start)).1) × (y ≡ x)
Makes product x n start (Some m) y =
    (m ≡ length x.candidates) × ((offer product x.rules (entries_of x) n (ranks_from x n start)).1 ≤ most)
    × (y
    ≡ with_candidate x
    (record {
      rule = n;
      start = start;
      cost = (offer product x.rules (entries_of x) n (ranks_from x n start)).1;
      size = size (tree_by x n (ranks_from x n start));
    }))

-- a tree has this number now, and nothing else was changed
pub record HasNumber (x : ListsOf) (t : Tree ℕ) (n : ℕ) (y : ListsOf) : Type 0 where
  pub below : n < length y.trees
  pub named : tree_at y.trees n ≡ t
  pub still : AreStill x.trees y.trees
  pub only : (m : ℕ) → m < length y.trees → (m < length x.trees) ⊎ (tree_at y.trees m ≡ tree_at y.trees n)
  pub rest : y ≡ with_trees x y.trees

-- all numbers after i are 0, and the i-th is not unless i is 0
pub record IsLast (js : List ℕ) (i : ℕ) : Type 0 where
  pub zeros : (k : ℕ) → i < k → k < length js → get_or js k 0 ≡ 0
  pub other : (i ≡ 0) ⊎ (get_or js i 0 ≡ 0 → ⊥)

-- the order of two trees with costs: by cost, and then by the order of trees
abbrev pub offers_cmp : List (List ℕ) → Tree ℕ × ℕ → Tree ℕ × ℕ → Ordering
offers_cmp labels a b = ordering_then (nat_cmp a.1 b.1) (tree_cmp_by labels a.0 b.0)

-- a candidate is known that was made, and that names entries
pub record IsKnownBy (x : ListsOf) (n : ℕ) : Type 0 where
  pub sound : IsSound x
  pub below : n < length x.candidates
  pub is : IsCandidate x (candidate_at x n)

-- lists over some rules and labels while no tree is known
abbrev pub empty_lists : List (Rule ℕ) → List (List ℕ) → List ℕ → ℕ → ListsOf
empty_lists rules labels label_ranks states = record {
  rules = rules;
  labels = labels;
  label_ranks = label_ranks;
  trees = [];
  lists = replicate states [];
  candidates = [];
  ranks = [];
}

-- lists with other trees, entries, candidates and ranks
abbrev pub grown : ListsOf → List (Tree ℕ) → List (List Entry) → List Candidate → List ℕ → ListsOf
grown x ts ls cs rs = record x { trees = ts; lists = ls; candidates = cs; ranks = rs }

-- nothing was taken away
pub record AreMore (x : ListsOf) (ts : List (Tree ℕ)) (ls : List (List Entry)) (cs : List Candidate) (rs : List ℕ) : Type 0 where
  pub trees : AreStill x.trees ts
  pub lists : (q : ℕ) → (more : List Entry) × (get_or ls q [] ≡ list_of x q ++ more)
  pub candidates : (more : List Candidate) × (cs ≡ x.candidates ++ more)
  pub ranks : (more : List ℕ) × (rs ≡ x.ranks ++ more)
