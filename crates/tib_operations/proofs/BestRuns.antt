-- Rules with the same series have the same inside cost of the start, and so the same beam.
use Rattle.std.proofs.Common.{◌≡◌, ℕ, ◌<◌, ◌≤◌, List, [], ◌∷◌, length, refl, ap, sym, ◌∙◌, subst, arith, suc}
use Rattle.std.specs.Prelude.{Option, None, Some}
use Rattle.tib_tree.specs.Trees.{Tree, Trees, none, tree, only, count}
use Rattle.tib_grammar.specs.Run.{AreRuns, yields, cost, IsCost}
use Rattle.tib_grammar.specs.Series.{IsSeries, HaveSameSeries}
use Rattle.tib_grammar.specs.declared.Rule.{Rule}
use Rattle.tib_grammar.proofs.NormalRuns.{count-yields}
use Rattle.tib_cost.specs.Semiring.{most}
use Rattle.tib_normal.proofs.Existing.{has_least}
use Rattle.tib_inside.specs.Inside.{IsRunCost, IsInside}
use Rattle.tib_prune.specs.Pruned.{IsWithinBeam, KeepsCheapTrees, HadNoGreaterCosts, StandInCheapRuns}
use Rattle.tib_operations.specs.Prune.{KeepsWithin}

-- one tree
one_tree : (ts : Trees ℕ) → count ts ≡ 1 → (t : Tree ℕ) × (ts ≡ only t)
one_tree none e = absurd (omega (arith, e))
one_tree (tree f kids none) e = (record { label = f; kids = kids }, refl)
one_tree (tree f kids (tree g more rest)) e = absurd (omega (arith, e))

-- the tree that a run from the start yields
run_tree : (product : ℕ → ℕ → ℕ) (rules : List (Rule ℕ)) (c : ℕ) → IsRunCost product rules (0 ∷ []) c → (t : Tree ℕ) × IsCost product rules (0 ∷ []) (only t) c
run_tree product rules c r =
    let t = one_tree (yields rules r.runs) (count-yields rules (0 ∷ []) r.runs r.are_runs) in
    (t.0, record { runs = r.runs; are_runs = r.are_runs; yielded = t.1; costs = r.costs })

not_below : (m n : ℕ) → (n < m → ⊥) → m ≤ n
not_below m n h = grind arith

module _ (product : ℕ → ℕ → ℕ) (xs ys : List (Rule ℕ)) (same : HaveSameSeries product xs ys) where
  -- a run of ys is not below the least cost of the runs of xs
  no_cheaper : (best : ℕ) → IsInside product xs 0 (Some best) → (c : ℕ) → IsRunCost product ys (0 ∷ []) c → c ≤ most → best ≤ c
  no_cheaper best i c r small = not_below best c (λ less.
      let t = run_tree product ys c r in
      has_least (IsCost product ys (0 ∷ []) (only t.0)) (λ v least. by t.0 t.1 less v least))
    where
      by : (t : Tree ℕ) → IsCost product ys (0 ∷ []) (only t) c → c < best → (v : Option ℕ) → IsSeries product ys t v → ⊥
      by t k less None least = least.lower c k small
      by t k less (Some d) least =
          let low : d ≤ c = least.lower c k small in
          let back : IsSeries product xs t (Some d) = (same t (Some d)).1 least in
          let s = back.attained.0 in
          let above : best ≤ d = i.lower d (record { runs = s.runs; are_runs = s.are_runs; costs = s.costs }) back.attained.1 in
          omega (arith, low, less, above)

  best_moved : (best : ℕ) → IsInside product xs 0 (Some best) → IsInside product ys 0 (Some best)
  best_moved best i =
      let t = run_tree product xs best i.attained.0 in
      let own : IsSeries product xs t.0 (Some best) = record {
        attained = (t.1, i.attained.1);
        lower = λ n k small. i.lower n (record { runs = k.runs; are_runs = k.are_runs; costs = k.costs }) small;
      } in
      let s = ((same t.0 (Some best)).0 own).attained.0 in
      record {
        attained = (record { runs = s.runs; are_runs = s.are_runs; costs = s.costs }, i.attained.1);
        lower = no_cheaper best i;
      }

  beam_over : (beam c : ℕ) → IsWithinBeam product xs beam c → IsWithinBeam product ys beam c
  beam_over beam c w = record { best = w.best; is_best = best_moved w.best w.is_best; close = w.close }

turned : (product : ℕ → ℕ → ℕ) (xs ys : List (Rule ℕ)) → HaveSameSeries product xs ys → HaveSameSeries product ys xs
turned product xs ys same t v = ((same t v).1, (same t v).0)

-- what keeps the one keeps the other
pub keeps_over :
    (product : ℕ → ℕ → ℕ) (xs ys : List (Rule ℕ)) (beam : ℕ) (new : List (Rule ℕ)) → HaveSameSeries product xs ys → KeepsCheapTrees product ys beam new → HadNoGreaterCosts product ys new → StandInCheapRuns product ys beam new →
    KeepsWithin product xs beam new
keeps_over product xs ys beam new same cheap costs runs = record {
  cheap = λ t c s w. cheap t c ((same t (Some c)).0 s) (beam_over product xs ys same beam c w);
  costs = λ t c s. let b = costs t c s in (b.0, (same t (Some b.0)).1 b.1, b.2);
  runs = λ n h.
      let r = runs n h in
      record { runs = r.runs; are_runs = r.are_runs; stands = r.stands; within_beam = beam_over product ys xs (turned product xs ys same) beam (cost product new r.runs) r.within_beam };
}
