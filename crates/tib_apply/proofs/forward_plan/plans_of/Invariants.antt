use Rattle.std.proofs.Common.{take}
use Rattle.tib_apply.specs.ForwardPlans.{ArePlans}
use Rattle.tib_apply.proofs.forward_plan.plans_of.Given as goal

abbrev pub invariant-loop-rule : goal.invariant-loop-rule
invariant-loop-rule l = ArePlans l.restrictions (take l.rule-index l.rules) l.plans.items
