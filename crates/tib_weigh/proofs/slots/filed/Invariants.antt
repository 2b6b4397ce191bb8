use Rattle.std.proofs.Common.{◌≡◌, take, vec_len}
use Rattle.tib_weigh.specs.Buckets.{lists_of, IsRuleOver, HoldsAll, HoldsOnly}
use Rattle.tib_weigh.proofs.slots.filed.Given as goal

abbrev pub invariant-loop-position : goal.invariant-loop-position
invariant-loop-position l = record {
  many : vec_len l.made ≡ l.slots;
  rest : IsRuleOver l.rules l.rank l.rest;
  all : HoldsAll l.rules l.place (take l.position-index l.positions) (lists_of l.made.items);
  only : HoldsOnly l.rules l.rank l.place l.positions (lists_of l.made.items);
}
