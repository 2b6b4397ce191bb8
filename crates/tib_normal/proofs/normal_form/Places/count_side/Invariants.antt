use Rattle.std.proofs.Common.{◌+◌, ◌≤◌, ◌≡◌, take}
use Rattle.std.specs.Prelude.{sum_by}
use Rattle.tib_normal.specs.Places.{own_states, own_parts}
use Rattle.tib_normal.proofs.normal_form.Places.count_side.Given as goal

abbrev pub invariant-loop-item : goal.invariant-loop-item
invariant-loop-item l = record {
  within : l.parts ≤ l.limit;
  states_few : l.states + l.fn.self.parts ≤ l.parts + l.fn.self.states;
  counted : l.states ≡ l.fn.self.states + sum_by own_states (take l.item-index l.item-items);
  parts : l.parts ≡ l.fn.self.parts + sum_by own_parts (take l.item-index l.item-items);
}
