use Rattle.tib_determinize.proofs.Holding.{ascend_more, more_held, own_held}
use Rattle.tib_determinize.proofs.holders.add_if_marked.Goals as goal

pub returns-clause-more : goal.returns-clause-more
returns-clause-more c = more_held c.args.state c.args.position c.args.lists.now.items c.add_position.new.lists.items c.in_ok-add_position.ensures

pub returns-clause-own : goal.returns-clause-own
returns-clause-own c = λ marked. own_held c.args.state c.args.position c.args.lists.now.items c.add_position.new.lists.items c.in_ok-add_position.ensures

pub returns-clause-ascend : goal.returns-clause-ascend
returns-clause-ascend c = λ up. ascend_more c.args.state c.args.position c.args.lists.now.items c.add_position.new.lists.items c.in_ok-add_position.ensures up
