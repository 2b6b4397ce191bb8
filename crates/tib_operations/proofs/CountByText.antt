-- The runs and the trees of a grammar have the same counts over each table of labels.
use Rattle.std.proofs.Common.{◌≡◌, ℕ, List, [], ◌∷◌, ap, sym, ◌∙◌, subst}
use Rattle.tib_lex.specs.Lists.{Distinct}
use Rattle.tib_tree.specs.Trees.{Tree, Trees, only, first_of, relabel, relabel_tree}
use Rattle.tib_grammar.specs.GrammarOf.{GrammarOf}
use Rattle.tib_grammar.specs.Run.{yields}
use Rattle.tib_grammar.specs.declared.Rule.{Rule}
use Rattle.tib_grammar_file.specs.ByText.{AgreeByText}
use Rattle.tib_grammar_file.proofs.Relabelled.{rules_with, trees_told}
use Rattle.tib_grammar_file.proofs.Renumbering.{renumbering}
use Rattle.tib_grammar_file.proofs.RunsByText.{differ_with, differ_back, runs_kept, rules_given}
use Rattle.tib_count.specs.Counts.{IsCountOf}
use Rattle.tib_count.specs.Counted.{IsRun, IsTree}
use Rattle.tib_count.specs.declared.count.Count.{Count}
use Rattle.tib_count.proofs.SetCounts.{count_moves, count_same}
use Rattle.tib_operations.proofs.BestByText.{yields_exchanged, one_tree}

module _ (f : ℕ → ℕ) (apart : (i j : ℕ) → f i ≡ f j → i ≡ j) (rules : List (Rule ℕ)) where
  run_to : (run : Trees ℕ) → IsRun rules run → IsRun (rules_with f rules) run
  run_to run r = runs_kept rules (rules_with f rules) (differ_with f rules) (0 ∷ []) run r

  run_from : (run : Trees ℕ) → IsRun (rules_with f rules) run → IsRun rules run
  run_from run r = runs_kept (rules_with f rules) rules (differ_back rules (rules_with f rules) (differ_with f rules)) (0 ∷ []) run r

  tree_to : (t : Tree ℕ) → IsTree rules t → IsTree (rules_with f rules) (relabel_tree f t)
  tree_to t k = record {
    run = k.run;
    is_run = run_to k.run k.is_run;
    yielded = sym (yields_exchanged f rules (0 ∷ []) k.run k.is_run) ∙ ap (relabel f) k.yielded;
  }

  tree_from : (u : Tree ℕ) → IsTree (rules_with f rules) u → (t : Tree ℕ) × IsTree rules t × (relabel_tree f t ≡ u)
  tree_from u k =
      let is_run : IsRun rules k.run = run_from k.run k.is_run in
      let t = one_tree f (yields rules k.run) u (yields_exchanged f rules (0 ∷ []) k.run is_run ∙ k.yielded) in
      (t.0, record { run = k.run; is_run = is_run; yielded = t.2 }, t.1)

  tree_told : (t u : Tree ℕ) → relabel_tree f t ≡ relabel_tree f u → t ≡ u
  tree_told t u e = ap (first_of 0) (trees_told f apart (only t) (only u) (ap only e))

  -- the runs are the same, and each tree becomes one under the other numbers
  pub runs_exchanged : (c : Count) → IsCountOf (IsRun rules) c → IsCountOf (IsRun (rules_with f rules)) c
  runs_exchanged = count_same (IsRun rules) (IsRun (rules_with f rules)) (λ run. (run_to run, run_from run))

  pub trees_exchanged : (c : Count) → IsCountOf (IsTree rules) c → IsCountOf (IsTree (rules_with f rules)) c
  trees_exchanged =
      count_moves (IsTree rules) (IsTree (rules_with f rules)) (relabel_tree f) (record { to = tree_to; apart = λ t u p q e. tree_told t u e; from = tree_from })

module _ (labels others : List (List ℕ)) (apart : Distinct labels) (different : Distinct others) (g h : GrammarOf) (agree : AgreeByText labels others g h) where
  pub runs_by_text : (c : Count) → IsCountOf (IsRun g.rules) c → IsCountOf (IsRun h.rules) c
  runs_by_text c k =
      let s = renumbering labels others apart different in
      subst (λ (rs : List (Rule ℕ)). IsCountOf (IsRun rs) c) (rules_given labels others s.0 s.1 g.rules h.rules agree.rules) (runs_exchanged s.0 s.1.apart g.rules c k)

  pub trees_by_text : (c : Count) → IsCountOf (IsTree g.rules) c → IsCountOf (IsTree h.rules) c
  trees_by_text c k =
      let s = renumbering labels others apart different in
      subst (λ (rs : List (Rule ℕ)). IsCountOf (IsTree rs) c) (rules_given labels others s.0 s.1 g.rules h.rules agree.rules) (trees_exchanged s.0 s.1.apart g.rules c k)
