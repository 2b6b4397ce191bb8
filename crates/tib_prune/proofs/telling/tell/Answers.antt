use Rattle.std.proofs.Common.{drop}
use Rattle.std.proofs.lemmas.List.{drop_all}
use Rattle.tib_inside.specs.Settling.{costs_in}
use Rattle.tib_prune.proofs.Told.{told_more, told_end}
use Rattle.tib_prune.proofs.telling.tell.Goals as goal

pub loop-rule-init : goal.loop-rule-init
loop-rule-init g c = λ final h. h

pub loop-rule-preserved : goal.loop-rule-preserved
loop-rule-preserved g c = λ final more. c.loop-rule.invariant final
    (told_more (costs_in c.args.outsides.now) g.S.Semiring.product (costs_in c.args.insides.now) c.args.outside c.args.rules.now c.loop-rule.rule-index c.rule-item.result _ c.loop-rule.agenda c.tell_rule.new.agenda final
    c.loop-rule-test.true c.rule-item.is c.in_ok-tell_rule.ensures more)

pub returns : goal.returns
returns g c = c.loop-rule.invariant c.loop-rule.agenda
    (told_end (costs_in c.args.outsides.now) g.S.Semiring.product (costs_in c.args.insides.now) c.args.outside (drop c.loop-rule.rule-index c.args.rules.now) c.loop-rule.agenda
    (drop_all c.loop-rule.rule-index c.args.rules.now c.loop-rule-test.false))
