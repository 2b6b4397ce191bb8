use Rattle.std.proofs.Common.{◌≡◌, ◌<◌, ◌++◌, map, drop, length}
use Rattle.tib_lex.specs.Lists.{Each}
use Rattle.tib_grammar.specs.Items.{holes_in}
use Rattle.tib_apply.specs.ForwardPlans.{end_of}
use Rattle.tib_apply.proofs.forward_plan.ends_among.Given as goal

abbrev pub invariant-loop-item : goal.invariant-loop-item
invariant-loop-item l = record {
  below : Each (λ x. x.variable < length l.restrictions) (holes_in (drop l.item-index l.items));
  done : l.ends.items ++ map (end_of l.restrictions) (holes_in (drop l.item-index l.items)) ≡ map (end_of l.restrictions) (holes_in l.items);
}
