use Rattle.tib_weigh.proofs.index.Index.new.Goals as goal

pub loop-rule-init : goal.loop-rule-init
loop-rule-init g c = c.empty-index.ensures g.S.Semiring.product c.args.normal.now.rules
