use Rattle.std.proofs.Common.{◌+◌, length, arith, ap, ◌∙◌, get_or, None}
use Rattle.std.proofs.lemmas.List.{length_push}
use Rattle.tib_apply.specs.LeastRuns.{asked_in}
use Rattle.tib_apply.proofs.AffordableMatches.{asked_next}
use Rattle.tib_apply.proofs.deleting.LeastRuns.asked_costs.Goals as goal

pub loop-state-preserved : goal.loop-state-preserved
loop-state-preserved c = record {
  within = omega (arith, c.loop-state-test.true);
  long = ap length c.in_ok-push.ensures.items ∙ length_push c.loop-state.costs.items c.asked.result ∙ ap (λ k. k + 1) c.loop-state.invariant.long;
  set = λ q b. ap (λ xs. get_or xs q None) c.in_ok-push.ensures.items
      ∙ asked_next (asked_in c.args.self.now c.args.label) c.loop-state.costs.items c.loop-state.state c.asked.result c.loop-state.invariant.long c.asked.ensures c.loop-state.invariant.set q b;
}

pub returns : goal.returns
returns c = λ q b. c.loop-state.invariant.set q (omega (arith, b, c.loop-state-test.false))
