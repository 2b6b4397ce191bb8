use Rattle.std.proofs.Common.{sym, ◌∙◌}
use Rattle.tib_grammar.specs.declared.Item.TheVariants.{Label}
use Rattle.tib_compose.proofs.FlatEdges.{flat_there}
use Rattle.tib_compose.proofs.flat.flat_root.Goals as goal

pub returns-in-Some-Label : goal.returns-in-Some-Label
returns-in-Some-Label c =
    let look = c.in-Some-Label.ensures.lookup in
    flat_there c.args.items.now c.in-Some-Label.label c.in-Some-Label.rank (Label 0 0) look.3.0 (sym (sym c.in-Some-Label.field-0-is ∙ look.3.1 (Label 0 0))) (c.are_pairs.ensures c.if-are_pairs.true)
