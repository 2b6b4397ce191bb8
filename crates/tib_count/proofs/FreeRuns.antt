-- Where every rule costs nothing, every run costs nothing, and the trees are those with a cost.
use Rattle.std.specs.Prelude.{◌≡◌, ◌↔◌, ℕ, ◌≤◌, max, List, [], ◌∷◌, Some, refl}
use Rattle.std.proofs.Common.{arith}
use Rattle.tib_cost.specs.Semiring.{most}
use Rattle.tib_tree.specs.Trees.{Tree, Trees, none, tree}
use Rattle.tib_grammar.specs.Run.{rule_at, AreRuns, cost, AreFree}
use Rattle.tib_grammar.specs.Series.{IsSeries, HaveSameSeries}
use Rattle.tib_grammar.specs.Sides.{holes_of}
use Rattle.tib_grammar.specs.declared.Rule.{Rule}
use Rattle.tib_count.specs.Counts.{IsCountOf}
use Rattle.tib_count.specs.Counted.{IsTree}
use Rattle.tib_count.specs.declared.count.Count.{Count}
use Rattle.tib_count.proofs.SetCounts.{count_same}

module _ (rules : List (Rule ℕ)) (free : AreFree rules) where
  pub run_free : (runs : Trees ℕ) (qs : List ℕ) → AreRuns rules qs runs → cost max rules runs ≡ 0
  run_free none qs a = refl
  run_free (tree n inner rest) [] a = absurd a
  run_free (tree n inner rest) (q ∷ qs) a =
      greatest (rule_at rules n).cost (cost max rules inner) (cost max rules rest) (free n a.0) (run_free inner (holes_of (rule_at rules n).right) a.2) (run_free rest qs a.3)
    where
      greatest : (a b c : ℕ) → a ≡ 0 → b ≡ 0 → c ≡ 0 → max (max a b) c ≡ 0
      greatest a b c d e f = omega arith

  pub run_within : (runs : Trees ℕ) (qs : List ℕ) → AreRuns rules qs runs → cost max rules runs ≤ most
  run_within runs qs a = let e = run_free runs qs a in omega arith

  -- what a run yields costs nothing
  pub tree_costs : (t : Tree ℕ) → IsTree rules t → IsSeries max rules t (Some 0)
  tree_costs t h = record {
    attained = (record { runs = h.run; are_runs = h.is_run; yielded = h.yielded; costs = run_free h.run (0 ∷ []) h.is_run }, omega arith);
    lower = λ n c b. omega arith;
  }

pub cost_tree : (rules : List (Rule ℕ)) (t : Tree ℕ) → IsSeries max rules t (Some 0) → IsTree rules t
cost_tree rules t s = let r = s.attained.0 in record { run = r.runs; is_run = r.are_runs; yielded = r.yielded }

-- so rules with the same series have the same trees
pub same_trees : (one two : List (Rule ℕ)) → AreFree one → AreFree two → HaveSameSeries max one two → (t : Tree ℕ) → IsTree one t ↔ IsTree two t
same_trees one two free free_too same t = (
  λ h. cost_tree two t ((same t (Some 0)).0 (tree_costs one free t h)),
  λ h. cost_tree one t ((same t (Some 0)).1 (tree_costs two free_too t h)),
)

pub as_many_trees : (one two : List (Rule ℕ)) → AreFree one → AreFree two → HaveSameSeries max one two → (c : Count) → IsCountOf (IsTree one) c → IsCountOf (IsTree two) c
as_many_trees one two free free_too same = count_same (IsTree one) (IsTree two) (same_trees one two free free_too same)
