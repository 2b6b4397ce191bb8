use Rattle.tib_difference.proofs.choices.below.Goals as goal

pub below-requires : goal.below-requires
below-requires c = (c.args.walk.now.order.now, c.requires.holders)
