use Rattle.std.proofs.Common.{◌+◌, length, arith, ap, ◌∙◌, get_or, None}
use Rattle.std.proofs.lemmas.List.{length_push}
use Rattle.tib_match.proofs.ColumnSteps.{hole_next, hole_whole}
use Rattle.tib_match.proofs.columns.hole_column.Goals as goal

pub loop-state-preserved : goal.loop-state-preserved
loop-state-preserved g c =
    let n = c.loop-state.state in
    record {
      within = omega (arith, c.loop-state-test.true);
      long = ap length c.in_ok-push.ensures.items ∙ length_push c.loop-state.costs.items c.cost_in.result ∙ ap (λ k. k + 1) c.loop-state.invariant.long;
      set = λ q b. ap (λ xs. get_or xs q None) c.in_ok-push.ensures.items
          ∙ hole_next c.args.span.now c.args.cost.now c.loop-state.costs.items n c.cost_in.result c.loop-state.invariant.long c.cost_in.ensures c.loop-state.invariant.set q b;
    }

pub returns : goal.returns
returns g c = hole_whole c.args.span.now c.args.cost.now c.loop-state.costs.items c.loop-state.state c.loop-state.invariant.long c.loop-state-test.false c.loop-state.invariant.set
