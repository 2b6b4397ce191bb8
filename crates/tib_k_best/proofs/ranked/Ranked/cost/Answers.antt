use Rattle.std.proofs.Common.{arith}
use Rattle.tib_k_best.proofs.Reading.{rest_cost}
use Rattle.tib_k_best.proofs.ranked.Ranked.cost.Goals as goal

pub returns : goal.returns
returns c =
    rest_cost c.self.inside.below c.self.inside.at c.self.inside.cost c.self.inside.first.items c.self.inside.rest.items c.args.self.now c.self.view_is c.args.i c.requires
    (λ h. omega (arith, h, c.if-place-len.false, c.len.ensures, c.self.inside.first.ok.0))
