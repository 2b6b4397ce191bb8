use Rattle.std.proofs.Common.{arith, rules, refl, sym, ◌∙◌, ◌<◌, subst, List, ℕ, length, get_or}
use Rattle.std.proofs.lemmas.List.{get_or_read, length-set}
use Rattle.tib_count.specs.Counts.{IsCountOf}
use Rattle.tib_count.specs.Counted.{IsRun}
use Rattle.tib_count.specs.Edges.{Leads}
use Rattle.tib_count.specs.Sums.{HasTotal}
use Rattle.tib_count.specs.declared.count.Count.{Count}
use Rattle.tib_count.specs.declared.count.Count.TheVariants.{Endless}
use Rattle.tib_grammar.specs.Range.{AreBelow}
use Rattle.tib_count.proofs.Summing.{sums_begin, known, summed_more, start_counted}
use Rattle.tib_count.proofs.sums.sum_runs.Goals as goal
use Rattle.tib_inside.proofs.Following.{lefts_below}

pub new-requires : goal.new-requires
new-requires c = record { below = subst (λ (xs : List ℕ). AreBelow c.args.count xs) (sym (c.deref.ensures.value ∙ c.in_ok-lefts.ensures)) (lefts_below c.args.rules.now c.args.count c.requires.range) }

pub loop-state-init : goal.loop-state-init
loop-state-init c = record { long = search rules; summed = sums_begin c.args.rules.now c.args.order.now _ }

pub loop-state-preserved : goal.loop-state-preserved
loop-state-preserved c =
    let totals : List Count = c.loop-state.totals.items in
    let i : ℕ = c.loop-state.state-index in
    let q : ℕ = get_or c.args.order.now i 0 in
    let here : i < length c.args.order.now = c.loop-state-test.true in
    let early : (p : ℕ) → Leads c.args.rules.now q p → HasTotal totals c.loop-state.invariant.summed.number p =
    known c.args.rules.now c.args.count i q c.args.order.now totals c.state_total.result c.requires.order here refl c.loop-state.invariant.summed in
    record {
      long = length-set totals q c.state_total.result ∙ c.loop-state.invariant.long;
      summed = summed_more c.args.rules.now c.args.count i q c.args.order.now totals c.state_total.result c.requires.order here refl c.loop-state.invariant.summed
          (omega (arith, c.requires.order.below i here, c.loop-state.invariant.long))
          (c.state_total.ensures c.loop-state.invariant.summed.number
          (subst (λ (xs : List Count). (p : ℕ) → Leads c.args.rules.now q p → HasTotal xs c.loop-state.invariant.summed.number p) (sym c.deref-in-loop-state.ensures.value) early));
    }

pub returns : goal.returns
returns c =
    subst (IsCountOf (IsRun c.args.rules.now))
    (sym (get_or_read c.loop-state.totals.items 0 c.index.result.now (omega (arith, c.loop-state.invariant.long, c.requires.start)) c.index.ensures Endless))
    (start_counted c.args.rules.now c.args.count c.args.order.now c.loop-state.totals.items c.loop-state.state-index (omega (arith, c.loop-state-test.false)) c.requires.order c.loop-state.invariant.summed)
