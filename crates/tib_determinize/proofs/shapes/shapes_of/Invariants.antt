use Rattle.std.proofs.Common.{◌≡◌, map, drop}
use Rattle.indexmap.specs.IndexSet.{insert_all}
use Rattle.tib_determinize.specs.Keys.{same_entry}
use Rattle.tib_determinize.specs.Shapes.{root_of, shapes_in}
use Rattle.tib_determinize.proofs.shapes.shapes_of.Given as goal

abbrev pub invariant-loop-rule : goal.invariant-loop-rule
invariant-loop-rule l = insert_all same_entry l.shapes.keys (map root_of (drop l.rule-index l.rules)) ≡ shapes_in l.rules
