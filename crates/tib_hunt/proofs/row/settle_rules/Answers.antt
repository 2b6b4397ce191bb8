use Rattle.std.proofs.Common.{◌+◌, take, sym, subst}
use Rattle.tib_hunt.specs.Rows.{Settles}
use Rattle.tib_hunt.proofs.Settling.{settles_none, settles_more}
use Rattle.tib_hunt.proofs.row.settle_rules.Goals as goal

pub loop-rule-init : goal.loop-rule-init
loop-rule-init g c = settles_none g.E.Expand.reading c.args.ends.now c.args.rules.now.items

pub loop-rule-preserved : goal.loop-rule-preserved
loop-rule-preserved g c = subst (λ l. Settles g.E.Expand.reading c.args.ends.now c.args.rules.now.items (take (c.loop-rule.rule-index + 1) c.args.over.now) l) (sym c.in-Ok.ensures.items)
    (settles_more g.E.Expand.reading c.args.ends.now c.args.rules.now.items c.loop-rule.rules.items c.args.over.now c.loop-rule.rule-index c.rule-item.result c.loop-rule-test.true c.rule-item.is c.loop-rule.invariant c.in_ok-settled.settled c.in_ok-settled.ensures.read c.in_ok-settled.ensures.positions)
