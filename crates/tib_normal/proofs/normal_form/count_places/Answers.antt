use Rattle.std.proofs.Common.{ℕ, List, Option, Some, None, IfNone, ◌<◌, arith, ap, sym, subst, ◌∙◌, ◌+◌}
use Rattle.std.specs.Prelude.{sum_by}
use Rattle.std.proofs.lemmas.List.{get_or_read, take_all}
use Rattle.tib_grammar.specs.declared.Rule.{Rule}
use Rattle.tib_grammar.specs.Run.{no_rule}
use Rattle.tib_normal.specs.Places.{rule_labels, place_parts}
use Rattle.tib_normal.proofs.Placing.{sum-more, below-kids}
use Rattle.tib_normal.proofs.Counting.{parts-more, parts-kids, parts-within, normal-parts}
use Rattle.tib_normal.proofs.normal_form.count_places.Goals as goal
use Rattle.tib_grammar.specs.Sides.{labels_in}

pub loop-rule-preserved : goal.loop-rule-preserved
loop-rule-preserved c =
    let at = get_or_read c.args.rules.now c.loop-rule.rule-index c.rule-item.result c.loop-rule-test.true c.rule-item.is no_rule in
    let sum = sum-more rule_labels c.args.rules.now c.loop-rule.rule-index c.rule-item.result c.loop-rule-test.true at in
    record {
      within = c.in_ok-places.ensures.within;
      states_few = omega (arith, c.in_ok-places.ensures.states, c.loop-rule.invariant.states_few);
      parts = parts-more c.args.rules.now c.loop-rule.rule-index c.rule-item.result c.args.states c.loop-rule.places.parts c.in_ok-places.places.parts c.loop-rule-test.true at c.loop-rule.invariant.parts (c.in_ok-places.ensures.parts ∙ ap (λ z. c.loop-rule.places.parts + z) (parts-kids c.items.result.now c.rule-item.result.right c.items.ensures.items));
      counted =
          c.in_ok-places.ensures.counted
          ∙ ap (λ z. c.loop-rule.places.states + labels_in z) (below-kids c.items.result.now c.rule-item.result.right c.items.ensures.items)
          ∙ ap (λ z. z + rule_labels c.rule-item.result) c.loop-rule.invariant.counted
          ∙ sym sum;
    }

if_none : {T : Type 0} (o : Option T) (P : Type 0) → P → IfNone o P
if_none None P p = p
if_none (Some x) P p = tt

pub returns-in_err-places-clause-many : goal.returns-in_err-places-clause-many
returns-in_err-places-clause-many c =
    let at = get_or_read c.args.rules.now c.loop-rule.rule-index c.rule-item.result c.loop-rule-test.true c.rule-item.is no_rule in
    let kids = parts-kids c.items.result.now c.rule-item.result.right c.items.ensures.items in
    if_none c.from_residual.result _ (parts-within c.args.rules.now c.loop-rule.rule-index c.rule-item.result c.args.states c.args.limit c.loop-rule.places.parts c.loop-rule-test.true at c.loop-rule.invariant.parts (subst (λ z. c.args.limit < c.loop-rule.places.parts + z) kids c.in_err-places.ensures.many))

pub returns-clause-parts : goal.returns-clause-parts
returns-clause-parts c =
    c.loop-rule.invariant.parts
    ∙ ap (λ (z : List (Rule ℕ)). c.args.states + sum_by place_parts z) (take_all c.loop-rule.rule-index c.args.rules.now c.loop-rule-test.false)
    ∙ sym (normal-parts c.args.states c.args.rules.now)
