use Rattle.tib_normal.proofs.Closing.{step-push}
use Rattle.tib_normal.proofs.spread.add_left.Goals as goal

pub returns : goal.returns
returns g c = step-push g.S.Semiring.product c.args.rule.now c.args.cost c.args.agenda.now c.push.new.self c.in-Some.longer c.in-Some.ensures c.in_ok-push.ensures
