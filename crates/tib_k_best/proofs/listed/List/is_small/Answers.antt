use Rattle.tib_k_best.proofs.Listing.{told_small}
use Rattle.tib_k_best.proofs.listed.List.is_small.Goals as goal

pub returns : goal.returns
returns c = told_small c.self.inside.trees c.self.inside.entries.items c.args.self.now c.self.view_is c.self.invariant
