-- Where rules cost nothing, the rules in complete runs have all runs from the start; and each state
-- in their right sides has a run.
use Rattle.std.specs.Prelude.{◌≡◌, ℕ, ◌<◌, max, List, [], ◌∷◌, length, map}
use Rattle.std.proofs.Common.{arith, get_or}
use Rattle.tib_lex.specs.Lists.{Has}
use Rattle.tib_lex.proofs.Members.{has_at}
use Rattle.tib_lex.proofs.Places.{distinct_at}
use Rattle.tib_tree.specs.Trees.{Trees, relabel}
use Rattle.tib_grammar.specs.GrammarOf.{GrammarOf}
use Rattle.tib_grammar.specs.Run.{rule_at, AreFree}
use Rattle.tib_grammar.specs.Sides.{holes_of}
use Rattle.tib_grammar.specs.declared.Rule.{Rule}
use Rattle.tib_inside.proofs.Chosen.{ascending_distinct}
use Rattle.tib_prune.proofs.Contexts.{cut_at}
use Rattle.tib_prune.specs.Contexts.{Stands}
use Rattle.tib_trim.specs.Complete.{IsInCompleteRun, AreAllInCompleteRuns}
use Rattle.tib_trim.specs.FirstSeen.{states_of}
use Rattle.tib_trim.specs.TrimmedFile.{IsTrimmedFile}
use Rattle.tib_trim.proofs.FirstSeen.{states_distinct}
use Rattle.tib_trim.proofs.Renumbered.{to_old, to_new}
use Rattle.tib_count.specs.Counts.{IsCountOf}
use Rattle.tib_count.specs.Counted.{IsRun, HaveRuns}
use Rattle.tib_count.specs.declared.count.Count.{Count}
use Rattle.tib_count.proofs.CarriedRuns.{run_of}
use Rattle.tib_count.proofs.FreeRuns.{run_within}
use Rattle.tib_count.proofs.KeptRuns.{of_all, of_kept, kept_apart}
use Rattle.tib_count.proofs.SetCounts.{count_moves}

-- where each rule is in a complete run, each state in a right side has a run
pub complete_have_runs : (product : ℕ → ℕ → ℕ) (rules : List (Rule ℕ)) → AreAllInCompleteRuns product rules → HaveRuns rules
complete_have_runs product rules all n q h s =
    let r = all n h in
    let c = cut_at rules r.run (0 ∷ []) n r.complete.from_start r.stands in
    run_of rules (holes_of (rule_at rules n).right) c.inner q c.are_inner s

module _ (g h : GrammarOf) (free : AreFree g.rules) (trimmed : IsTrimmedFile max g h) where
  abbrev kept : List (Rule ℕ)
  kept = map (rule_at g.rules) trimmed.positions

  abbrev position_of : ℕ → ℕ
  position_of i = get_or trimmed.positions i 0

  abbrev state_of : ℕ → ℕ
  state_of i = get_or (states_of kept) i 0

  states_apart : (p q : ℕ) → p < length (states_of kept) → q < length (states_of kept) → state_of p ≡ state_of q → p ≡ q
  states_apart p q a b e = distinct_at (states_of kept) p q 0 (states_distinct kept) a b e

  -- a run of the trimmed file is one of the rules that are kept, under the old numbers of states
  as_kept : (run : Trees ℕ) → IsRun h.rules run → IsRun kept run
  as_kept run a = to_old max state_of (length (states_of kept)) kept h.rules trimmed.has_rules.named trimmed.has_rules.in_range states_apart run (0 ∷ []) a

  of_file : (run : Trees ℕ) → IsRun kept run → IsRun h.rules run
  of_file run a =
      to_new max state_of (length (states_of kept)) kept h.rules trimmed.has_rules.named trimmed.has_rules.in_range states_apart run (0 ∷ []) (omega arith, tt) a

  position_below : (i : ℕ) → i < length trimmed.positions → position_of i < length g.rules
  position_below i b =
      let r : IsInCompleteRun max g.rules (position_of i) = (trimmed.are_kept.are (position_of i)).0 (has_at trimmed.positions i 0 b) in
      (cut_at g.rules r.run (0 ∷ []) (position_of i) r.complete.from_start r.stands).position

  -- each rule of a run from the start is kept
  has_position : (run : Trees ℕ) → IsRun g.rules run → (n : ℕ) → Stands n run → Has trimmed.positions n
  has_position run a n s =
      (trimmed.are_kept.are n).1 (record { run = run; complete = record { from_start = a; within = run_within g.rules free run (0 ∷ []) a }; stands = s })

  -- so the trimmed file has as many runs
  pub trimmed_keeps_runs : (c : Count) → IsCountOf (IsRun h.rules) c → IsCountOf (IsRun g.rules) c
  trimmed_keeps_runs c k =
      count_moves (IsRun h.rules) (IsRun g.rules) (relabel position_of)
      (record {
        to = λ run a. of_all g.rules trimmed.positions position_below run (0 ∷ []) (as_kept run a);
        apart = λ one two a b e. kept_apart g.rules trimmed.positions (ascending_distinct trimmed.positions trimmed.are_kept.ascend) one two (0 ∷ []) (0 ∷ []) (as_kept one a) (as_kept two b) e;
        from = λ run a. let o = of_kept g.rules trimmed.positions run (0 ∷ []) a (has_position run a) in (o.others, of_file o.others o.are_runs, o.same);
      })
      c k
