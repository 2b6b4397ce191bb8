use Rattle.std.proofs.Common.{◌≡◌, ◌<◌, ◌++◌, drop, length}
use Rattle.tib_lex.specs.Lists.{Each}
use Rattle.tib_grammar.specs.Items.{holes_in}
use Rattle.tib_apply.specs.ForwardPlans.{unmarked_of}
use Rattle.tib_apply.proofs.forward_plan.unmarked.Given as goal

abbrev pub invariant-loop-item : goal.invariant-loop-item
invariant-loop-item l = record {
  below : Each (λ x. x.number < length l.marks) (holes_in (drop l.item-index l.items));
  done : l.variables.items ++ unmarked_of l.marks (holes_in (drop l.item-index l.items)) ≡ unmarked_of l.marks (holes_in l.items);
}
