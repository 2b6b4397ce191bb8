use Rattle.std.proofs.Common.{◌≡◌, ◌-◌, take, vec_len}
use Rattle.tib_weigh.proofs.weighing.Room.keep.Given as goal

abbrev pub invariant-loop-done : goal.invariant-loop-done
invariant-loop-done l = record {
  stack : l.stack.items ≡ take (vec_len l.fn.stack - l.done) l.fn.stack.items;
  found : l.self.found ≡ l.fn.self.found;
}
