use Rattle.std.specs.Vec.Iter.{into_iter_items}
use Rattle.tib_inside.proofs.MarkedRules.{IsMoving}
use Rattle.tib_inside.proofs.renaming.marked_rules.Given as goal

abbrev pub invariant-loop-rule : goal.invariant-loop-rule
invariant-loop-rule l = IsMoving l.fn.rules.items l.marks l.numbers l.yielded (into_iter_items l.rule-iterator) l.place l.moved.items
