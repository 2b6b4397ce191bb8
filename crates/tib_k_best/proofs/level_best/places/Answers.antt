use Rattle.std.specs.Prelude.{◌-◌}
use Rattle.std.proofs.Common.{arith}
use Rattle.tib_k_best.proofs.Ranking.{are_ranked, at_costs, below_costs, ranked_best, split_few}
use Rattle.tib_k_best.proofs.level_best.places.Goals as goal

pub first_of-requires : goal.first_of-requires
first_of-requires g c =
    below_costs g.met.S.Semiring.laws c.requires.levelled c.args.labels.now c.args.normal.now.rules c.requires.normal c.args.k c.args.split.now.cost c.args.split.now.below c.args.split.now.at c.requires.split

pub rest_of-requires : goal.rest_of-requires
rest_of-requires g c =
    at_costs g.met.S.Semiring.laws c.requires.levelled c.args.labels.now c.args.normal.now.rules c.requires.normal c.args.k c.args.split.now.cost c.args.split.now.below c.args.split.now.at c.requires.split

pub returns-clause-ranked : goal.returns-clause-ranked
returns-clause-ranked g c =
    let first = c.in_ok-first.ensures in
    let rest = c.in_ok-rest.ensures in
    are_ranked g.S.Semiring.product c.args.normal.now.rules c.args.k c.args.split.now.cost (c.args.k - c.len-count.result) c.args.split.now.below c.args.split.now.at first.0 rest.0 c.in_ok-first.first.items
    (omega (arith, c.ranges.k.fits))
    (split_few g.S.Semiring.product c.args.labels.now c.args.normal.now.rules c.args.k c.args.split.now.cost c.args.split.now.below c.args.split.now.at c.requires.split) first.1 rest.1 first.2
    (omega (arith, c.len-count.ensures, c.in_ok-first.first.ok.0)) c.in_ok-rest.rest.items rest.2

pub returns-clause-best : goal.returns-clause-best
returns-clause-best g c =
    let first = c.in_ok-first.ensures in
    let rest = c.in_ok-rest.ensures in
    ranked_best g.met.S.Semiring.laws c.requires.levelled c.args.labels.now c.args.normal.now.rules c.requires.normal c.args.k c.args.split.now.cost c.args.split.now.below c.args.split.now.at c.requires.split
    first.0 rest.0 c.in_ok-first.first.items first.1 rest.1 first.2 (c.args.k - c.len-count.result) (omega (arith, c.len-count.ensures, c.in_ok-first.first.ok.0)) c.in_ok-rest.rest.items rest.2
