use Rattle.std.proofs.Common.{subst, sym}
use Rattle.std.proofs.lemmas.List.{get_or_read}
use Rattle.tib_transducer.specs.Rules.{no_rule}
use Rattle.tib_apply.specs.ForwardPlans.{ArePlans}
use Rattle.tib_apply.proofs.ForwardPlanned.{plans_next}
use Rattle.tib_apply.proofs.forward_plan.plans_of.Goals as goal

pub loop-rule-preserved : goal.loop-rule-preserved
loop-rule-preserved c =
    let at = get_or_read c.args.rules.now c.loop-rule.rule-index c.rule-item.result c.loop-rule-test.true c.rule-item.is no_rule in
    subst (ArePlans c.args.restrictions.now _) (sym c.in_ok-push.ensures.items)
    (plans_next c.args.restrictions.now c.args.rules.now c.loop-rule.rule-index c.rule-item.result c.loop-rule.plans.items c.in_ok-new.field-0 c.loop-rule-test.true at c.loop-rule.invariant c.in_ok-new.ensures)
