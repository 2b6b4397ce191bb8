use Rattle.tib_grammar.specs.ShapeBuckets.{lists_of}
use Rattle.tib_normal.specs.Arranging.{IsArranging}
use Rattle.tib_normal.proofs.rows.arrange.Given as goal

abbrev pub invariant-loop-state : goal.invariant-loop-state
invariant-loop-state l = IsArranging (lists_of l.sides.table.keys) l.rows l.state 0 l.rules.items
