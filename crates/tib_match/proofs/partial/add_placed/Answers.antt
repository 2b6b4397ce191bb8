use Rattle.std.proofs.Common.{rules, ◌≡◌, ◌-◌, length, slice_get, Some}
use Rattle.tib_cost.specs.Semiring.{cut}
use Rattle.tib_match.proofs.Placing.{add_one}
use Rattle.tib_match.proofs.partial.add_placed.Goals as goal

pub returns : goal.returns
returns g c =
    let last : slice_get c.args.partial.now.waiting.items (length c.args.partial.now.waiting.items - 1) ≡ Some c.in-Some.state = search rules in
    let from : c.in-Some.state ≡ c.args.rule.now.left = search rules in
    let costs : cut (g.S.Semiring.product c.args.partial.now.cost c.args.rule.now.cost) ≡ Some c.in-Some-times.cost = search rules in
    add_one g.S.Semiring.product c.args.rule.now c.args.found.now.items c.push.new.self.items c.args.partial.now c.in_ok-next.next c.in-Some.state c.in-Some-times.cost
    c.in_ok-push.ensures.items last from costs c.in_ok-next.ensures.cost c.in_ok-next.ensures.states c.in_ok-next.ensures.waiting
