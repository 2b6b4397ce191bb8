use Rattle.std.proofs.Common.{arith, refl}
use Rattle.tib_key_edges.proofs.MappedSides.{items_size}
use Rattle.tib_key_edges.proofs.side_listing.SideListing.add.Goals as goal

pub returns-then-nodes-left-clause-more : goal.returns-then-nodes-left-clause-more
returns-then-nodes-left-clause-more g c = λ _.
    omega (arith, c.if-nodes-left.true, items_size c.items.result.now c.args.side.now c.items.ensures.items)

pub returns-clause-rule : goal.returns-clause-rule
returns-clause-rule g c = record {
  rule = _;
  rules = c.in-Ok.ensures.items;
  position = refl;
  side = refl;
  first_end = refl;
  costs = refl;
  parts = omega (arith, items_size c.items.result.now c.args.side.now c.items.ensures.items);
}

pub returns-clause-within : goal.returns-clause-within
returns-clause-within g c = record {
  few = omega (arith, c.requires.ready.few, items_size c.items.result.now c.args.side.now c.items.ensures.items);
  within = omega (arith, c.if-nodes-left.false, c.requires.ready.within);
  budget = c.requires.ready.budget;
}
