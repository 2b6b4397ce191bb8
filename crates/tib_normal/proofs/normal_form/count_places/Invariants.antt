use Rattle.std.proofs.Common.{◌+◌, ◌≤◌, ◌≡◌, take}
use Rattle.std.specs.Prelude.{sum_by}
use Rattle.tib_normal.specs.Places.{rule_labels, place_parts}
use Rattle.tib_normal.proofs.normal_form.count_places.Given as goal

abbrev pub invariant-loop-rule : goal.invariant-loop-rule
invariant-loop-rule l = record {
  within : l.places.parts ≤ l.limit;
  states_few : l.places.states + l.fn.states ≤ l.places.parts;
  counted : l.places.states ≡ sum_by rule_labels (take l.rule-index l.rules);
  parts : l.places.parts ≡ l.fn.states + sum_by place_parts (take l.rule-index l.rules);
}
