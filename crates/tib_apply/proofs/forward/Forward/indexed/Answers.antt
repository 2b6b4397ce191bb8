use Rattle.std.proofs.Common.{◌<◌, length, ap, subst, ◌∙◌}
use Rattle.tib_apply.specs.Restrictions.{restricted_labels}
use Rattle.tib_apply.proofs.ForwardEdges.{states_below, has_plans}
use Rattle.tib_apply.proofs.forward.Forward.indexed.Goals as goal

pub invariant_of-result : goal.invariant_of-result
invariant_of-result g c =
    let restricted = c.in_ok-restrictions.ensures ∙ ap restricted_labels c.rule_list.ensures in
    record {
      restricted = restricted;
      indexed = c.in_ok-moves.ensures;
      planned = has_plans c.in_ok-restrictions.restrictions _ c.rule_list-2.result.now _ c.in_ok-plans.plans.items restricted c.rule_list-2.ensures c.in_ok-plans.ensures;
      start = subst (λ n. 0 < length n.names) c.grammar.ensures.same c.is_sound.ensures.start;
      range = states_below c.grammar.result.now c.args.grammar.now c.grammar.ensures.same c.is_sound.ensures.range;
    }
