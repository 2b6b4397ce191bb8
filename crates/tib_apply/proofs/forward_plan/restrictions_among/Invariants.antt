use Rattle.std.proofs.Common.{◌≡◌, ◌++◌, map, drop}
use Rattle.tib_grammar.specs.Items.{holes_in}
use Rattle.tib_apply.specs.Restrictions.{restriction}
use Rattle.tib_apply.proofs.forward_plan.restrictions_among.Given as goal

abbrev pub invariant-loop-item : goal.invariant-loop-item
invariant-loop-item l =
    l.numbers.items ++ map (λ x. restriction l.restrictions x.label) (holes_in (drop l.item-index l.items)) ≡ map (λ x. restriction l.restrictions x.label) (holes_in l.items)
