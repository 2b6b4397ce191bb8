use Rattle.tib_weigh.proofs.weighing.index_for.Goals as goal

pub returns-then-nodes-rule_list : goal.returns-then-nodes-rule_list
returns-then-nodes-rule_list g c = c.empty.ensures g.S.Semiring.product c.args.normal.now.rules
