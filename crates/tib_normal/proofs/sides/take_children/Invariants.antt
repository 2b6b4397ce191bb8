use Rattle.std.proofs.Common.{◌≤◌, ◌≡◌, ◌∷◌, take, drop}
use Rattle.std.specs.Prelude.{reverse}
use Rattle.tib_normal.proofs.sides.take_children.Given as goal

abbrev pub invariant-loop : goal.invariant-loop
invariant-loop l = record {
  within : l.counter ≤ l.rank;
  taken : l.side.items ≡ l.label ∷ take l.counter (reverse l.initial.stack.items);
  left : reverse l.stack.items ≡ drop l.counter (reverse l.initial.stack.items);
}
