-- Through costs are least costs of complete runs.
use Rattle.std.specs.Prelude.{◌≡◌, ℕ, ◌-◌, ◌<◌, ◌≤◌, List, [], ◌∷◌, length, Bool, Option, None, Some, refl}
use Rattle.std.proofs.Common.{arith, sym, subst}
use Rattle.tib_lex.proofs.Lists.{some_same}
use Rattle.tib_tree.specs.Trees.{Trees}
use Rattle.tib_grammar.specs.Run.{rule_at, AreRuns, cost}
use Rattle.tib_grammar.specs.declared.Rule.{Rule}
use Rattle.tib_cost.specs.Semiring.{ProductLaws, most}
use Rattle.tib_cost.specs.Least.{AtMost, IsMember}
use Rattle.tib_cost.proofs.Least.{IsLeast-unique}
use Rattle.tib_inside.specs.Inside.{IsRunCost}
use Rattle.tib_inside.proofs.Living.{has_inside}
use Rattle.tib_prune.specs.Contexts.{Stands}
use Rattle.tib_prune.specs.Outside.{through}
use Rattle.tib_prune.specs.Pruned.{AreCosts, IsKept, IsWithinBeam}
use Rattle.tib_prune.proofs.Pruned.{all_kept, through_run}
use Rattle.tib_prune.proofs.Through.{through_to, through_from}
use Rattle.tib_trim.specs.Complete.{IsInCompleteRun, IsCostWith, IsThroughCost}

module _
    {levelled weighted : Bool} {product : ℕ → ℕ → ℕ} (laws : ProductLaws levelled weighted product) (rules : List (Rule ℕ)) (insides outsides : ℕ → Option ℕ)
    (costs : AreCosts product rules insides outsides) where
  -- a rule in a complete run has a through cost that is not greater
  pub below_run :
      (run : Trees ℕ) (n : ℕ) → AreRuns rules (0 ∷ []) run → cost product rules run ≤ most → Stands n run →
      (c : ℕ) × (through product insides outsides (rule_at rules n) ≡ Some c) × (c ≤ cost product rules run)
  below_run run n a m s =
      let r : IsRunCost product rules (0 ∷ []) (cost product rules run) = record { runs = run; are_runs = a; costs = refl } in
      let b = has_inside laws rules insides costs.are_insides 0 (cost product rules run) r m in
      let low : b.0 ≤ cost product rules run = b.1.lower (cost product rules run) r m in
      let beam : ℕ = cost product rules run - b.0 in
      let within : IsWithinBeam product rules beam (cost product rules run) = record { best = b.0; is_best = b.1; close = omega arith } in
      let kept : IsKept product rules beam n = all_kept laws rules beam insides outsides costs run n a m within s in
      let same : kept.within_beam.best ≡ b.0 = some_same kept.within_beam.best b.0 (IsLeast-unique kept.within_beam.is_best b.1) in
      (kept.cost, through_from laws rules insides outsides costs n kept.cost kept.through, omega (arith, same, low, kept.within_beam.close))

  -- and each through cost is the cost of such a run
  pub run_at :
      (n c : ℕ) → n < length rules → through product insides outsides (rule_at rules n) ≡ Some c → IsCostWith product rules n c × (c ≤ most)
  run_at n c h e =
      let is = through_to laws rules insides outsides costs n c h e in
      let r = through_run laws rules 0 insides outsides costs n c is in
      (record { run = r.runs; from_start = r.are_runs; stands = r.stands; costs = r.costs_are }, is.within)

  -- so it is the least
  pub is_least : (n : ℕ) → n < length rules → IsThroughCost product rules n (through product insides outsides (rule_at rules n))
  is_least n h = record { attained = member (through product insides outsides (rule_at rules n)) refl; lower = lower }
    where
      member : (v : Option ℕ) → through product insides outsides (rule_at rules n) ≡ v → IsMember (IsCostWith product rules n) v
      member None e = tt
      member (Some c) e = run_at n c h e

      lower : (m : ℕ) → IsCostWith product rules n m → m ≤ most → AtMost (through product insides outsides (rule_at rules n)) m
      lower m r b =
          let k = below_run r.run n r.from_start (omega (arith, r.costs, b)) r.stands in
          subst (λ v. AtMost v m) (sym k.1) (omega (arith, k.2, r.costs))

-- a rule is in a complete run where it has a through cost
pub has_run : {product : ℕ → ℕ → ℕ} (rules : List (Rule ℕ)) (n c : ℕ) → IsThroughCost product rules n (Some c) → IsInCompleteRun product rules n
has_run rules n c t =
    let r = t.attained.0 in
    record { run = r.run; complete = record { from_start = r.from_start; within = omega (arith, r.costs, t.attained.1) }; stands = r.stands }

-- and where it is in one it has a through cost
pub has_cost : {product : ℕ → ℕ → ℕ} (rules : List (Rule ℕ)) (n : ℕ) (v : Option ℕ) → IsThroughCost product rules n v → IsInCompleteRun product rules n → (c : ℕ) × (v ≡ Some c)
has_cost rules n (Some c) t r = (c, refl)
has_cost {product} rules n None t r =
    absurd (t.lower (cost product rules r.run) (record { run = r.run; from_start = r.complete.from_start; stands = r.stands; costs = refl }) r.complete.within)

pub some_run : {product : ℕ → ℕ → ℕ} (rules : List (Rule ℕ)) (n : ℕ) (v : Option ℕ) → IsThroughCost product rules n v → (c : ℕ) × (v ≡ Some c) → IsInCompleteRun product rules n
some_run {product} rules n v t s = has_run rules n s.0 (subst (IsThroughCost product rules n) s.1 t)
