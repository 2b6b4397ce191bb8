use Rattle.std.proofs.Common.{rules, ◌≡◌}
use Rattle.tib_grammar.specs.Sides.{holes_of}
use Rattle.tib_grammar.specs.Items.{holes_in}
use Rattle.tib_grammar.proofs.Holes.{holes_of_items}
use Rattle.tib_match.proofs.partial.with_rule.Goals as goal

pub returns-clause-waiting : goal.returns-clause-waiting
returns-clause-waiting c =
    let holes : holes_of c.args.rule.now.right ≡ holes_in c.items.result.now = holes_of_items c.items.result.now c.args.rule.now.right c.items.ensures.items in
    rw holes (search rules)
