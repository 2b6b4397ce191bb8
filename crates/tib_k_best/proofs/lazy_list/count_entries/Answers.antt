use Rattle.std.proofs.Common.{arith}
use Rattle.tib_k_best.proofs.Counting.{counted_all, counted_fits, counted_next}
use Rattle.tib_k_best.proofs.lazy_list.count_entries.Goals as goal

pub overflow_add-entries : goal.overflow_add-entries
overflow_add-entries c = record {
  fits = counted_fits c.args.lists.now c.requires.sound c.requires.few c.loop-state.state c.loop-state.entries c.len.result (omega (arith, c.loop-state-test.true, c.states-state-end.ensures)) c.loop-state.invariant c.len.ensures;
}

pub loop-state-preserved : goal.loop-state-preserved
loop-state-preserved c =
    counted_next c.args.lists.now c.loop-state.state c.loop-state.entries c.len.result (omega (arith, c.loop-state-test.true, c.states-state-end.ensures)) c.loop-state.invariant c.len.ensures

pub returns : goal.returns
returns c = counted_all c.args.lists.now c.loop-state.state c.loop-state.entries (omega (arith, c.loop-state-test.false, c.states-state-end.ensures)) c.loop-state.invariant
