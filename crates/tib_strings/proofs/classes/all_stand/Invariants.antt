use Rattle.std.proofs.Common.{drop}
use Rattle.tib_grammar.specs.Items.{holes_in}
use Rattle.tib_strings.specs.Rules.{variables_in}
use Rattle.tib_strings.specs.Faults.{AreAmong}
use Rattle.tib_strings.proofs.classes.all_stand.Given as goal

abbrev pub invariant-loop-item : goal.invariant-loop-item
invariant-loop-item l = record {
  back : AreAmong (variables_in l.words) (holes_in (drop l.item-index l.items)) → AreAmong (variables_in l.words) (holes_in l.items);
  on : AreAmong (variables_in l.words) (holes_in l.items) → AreAmong (variables_in l.words) (holes_in (drop l.item-index l.items));
}
