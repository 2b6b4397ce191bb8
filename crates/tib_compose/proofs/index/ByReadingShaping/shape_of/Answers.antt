use Rattle.tib_compose.proofs.Reading.{first_item, shape_reads}
use Rattle.tib_compose.proofs.index.ByReadingShaping.shape_of.Goals as goal

pub returns : goal.returns
returns c =
    let first = first_item c.items.result.now c.args.rule.now.left c.in-Label.label c.in-Label.rank c.items.ensures.items c.in-Label.is in
    shape_reads c.args.rule.now c.in-Label.label c.in-Label.rank c.requires first.0 first.1
