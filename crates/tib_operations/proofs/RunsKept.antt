-- Of grammars whose rules cost nothing, those with the same series have runs of the same trees.
use Rattle.tib_cost.specs.declared.Scale.TheVariants.{Unweighted}
use Rattle.std.specs.Prelude.{◌≡◌, ◌↔◌, ℕ, max, List, [], ◌∷◌, Some}
use Rattle.std.proofs.Common.{refl, ap, ◌∙◌, arith}
use Rattle.tib_tree.specs.Trees.{Tree, Trees, none, tree}
use Rattle.tib_grammar.specs.GrammarOf.{GrammarOf}
use Rattle.tib_grammar.specs.Run.{rule_at, AreRuns, cost}
use Rattle.tib_grammar.specs.Sides.{holes_of}
use Rattle.tib_grammar.specs.Series.{IsSeries, HasSameSeries}
use Rattle.tib_grammar.specs.declared.Rule.{Rule}
use Rattle.tib_grammar_file.specs.Printable.{ArePrintable}
use Rattle.tib_difference.specs.Series.{HasRun}

module _ (labels : List (List ℕ)) (rules : List (Rule ℕ)) (p : ArePrintable Unweighted labels rules) where
  -- runs cost nothing
  runs_free : (runs : Trees ℕ) (qs : List ℕ) → AreRuns rules qs runs → cost max rules runs ≡ 0
  runs_free none [] a = refl
  runs_free none (q ∷ qs) a = absurd a
  runs_free (tree n runs rest) [] a = absurd a
  runs_free (tree n runs rest) (q ∷ qs) a =
      ap (λ (x : ℕ). max (max x (cost max rules runs)) (cost max rules rest)) (p n a.0).cost
      ∙ ap (λ (x : ℕ). max (max 0 x) (cost max rules rest)) (runs_free runs (holes_of (rule_at rules n).right) a.2)
      ∙ ap (λ (x : ℕ). max (max 0 0) x) (runs_free rest qs a.3)

  -- a tree has a run where its series is 0
  run_costs : (t : Tree ℕ) → HasRun rules t → IsSeries max rules t (Some 0)
  run_costs t r = record {
    attained = (record { runs = r.runs; are_runs = r.are_runs; yielded = r.yielded; costs = runs_free r.runs (0 ∷ []) r.are_runs }, omega arith);
    lower = λ n member low. omega arith;
  }

run_there : (rules : List (Rule ℕ)) (t : Tree ℕ) → IsSeries max rules t (Some 0) → HasRun rules t
run_there rules t s = record { runs = s.attained.0.runs; are_runs = s.attained.0.are_runs; yielded = s.attained.0.yielded }

pub runs_kept :
    (labels : List (List ℕ)) (f g : GrammarOf) → ArePrintable Unweighted labels f.rules → ArePrintable Unweighted labels g.rules → HasSameSeries max f g → (t : Tree ℕ) → HasRun f.rules t ↔ HasRun g.rules t
runs_kept labels f g p q same t = (
  λ r. run_there g.rules t ((same t (Some 0)).0 (run_costs labels f.rules p t r)),
  λ r. run_there f.rules t ((same t (Some 0)).1 (run_costs labels g.rules q t r)),
)
