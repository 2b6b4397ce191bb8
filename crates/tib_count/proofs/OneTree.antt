-- The tree of a run; and in deterministic form there are as many trees as runs.
use Rattle.std.specs.Prelude.{◌≡◌, ℕ, List, [], ◌∷◌, refl}
use Rattle.std.proofs.Common.{arith, ap, sym, ◌∙◌}
use Rattle.tib_tree.specs.Trees.{Tree, Trees, none, tree, only, first_of, count}
use Rattle.tib_grammar.specs.Forms.{IsDeterministic}
use Rattle.tib_grammar.specs.Range.{SidesEndInHoles}
use Rattle.tib_grammar.specs.Run.{yields}
use Rattle.tib_grammar.specs.declared.Rule.{Rule}
use Rattle.tib_grammar.proofs.NormalRuns.{count-yields}
use Rattle.tib_grammar.proofs.OneRun.{one_start_run}
use Rattle.tib_count.specs.Counts.{IsCountOf}
use Rattle.tib_count.specs.Counted.{IsRun, IsTree}
use Rattle.tib_count.specs.declared.count.Count.{Count}
use Rattle.tib_count.proofs.SetCounts.{count_moves}

-- the tree that a run from one state yields
abbrev pub tree_of : List (Rule ℕ) → Trees ℕ → Tree ℕ
tree_of rules run = first_of 0 (yields rules run)

lone_tree : (ts : Trees ℕ) → count ts ≡ 1 → ts ≡ only (first_of 0 ts)
lone_tree none e = absurd (omega arith)
lone_tree (tree f kids none) e = refl
lone_tree (tree f kids (tree g ls more)) e = absurd (omega arith)

module _ (rules : List (Rule ℕ)) where
  pub yields_tree : (run : Trees ℕ) → IsRun rules run → yields rules run ≡ only (tree_of rules run)
  yields_tree run a = lone_tree (yields rules run) (count-yields rules (0 ∷ []) run a)

  pub is_tree : (run : Trees ℕ) → IsRun rules run → IsTree rules (tree_of rules run)
  is_tree run a = record { run = run; is_run = a; yielded = yields_tree run a }

  -- a tree is that of its run
  pub of_run : (t : Tree ℕ) (h : IsTree rules t) → tree_of rules h.run ≡ t
  of_run t h = ap (first_of 0) h.yielded

  -- in deterministic form there are as many trees as runs
  pub trees_of_deterministic : SidesEndInHoles rules → IsDeterministic rules → (c : Count) → IsCountOf (IsRun rules) c → IsCountOf (IsTree rules) c
  trees_of_deterministic ends form c h =
      count_moves (IsRun rules) (IsTree rules) (tree_of rules)
      (record {
        to = is_tree;
        apart = λ one two a b e. one_start_run rules form ends one two a b (yields_tree one a ∙ ap only e ∙ sym (yields_tree two b));
        from = λ t k. (k.run, k.is_run, of_run t k);
      })
      c h
