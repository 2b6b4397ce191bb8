use Rattle.tib_k_best.proofs.Reading.{ranked_small}
use Rattle.tib_k_best.proofs.ranked.Ranked.is_small.Goals as goal

pub returns : goal.returns
returns c =
    ranked_small c.self.inside.below c.self.inside.at c.self.inside.cost c.self.inside.first.items c.self.inside.rest.items c.args.self.now c.self.view_is c.self.invariant c.is_small.ensures
    c.is_small-2.ensures
