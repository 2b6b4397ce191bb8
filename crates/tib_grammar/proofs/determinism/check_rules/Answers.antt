use Rattle.std.proofs.Common.{◌≡◌, arith, ap, ◌∙◌, subst, Some, None, map, ◌+◌}
use Rattle.std.proofs.lemmas.List.{get_or_read}
use Rattle.tib_tree.specs.Trees.{preorder_of}
use Rattle.tib_grammar.specs.Run.{rule_at, no_rule}
use Rattle.tib_grammar.specs.Forms.{IsShaped, IsNew}
use Rattle.tib_grammar.specs.Checked.{IsShapeFault, IsNoted}
use Rattle.tib_grammar.proofs.Forms.{upto, fault_here, place_below, IsShared-from, IsNew-from, AreFirstSides-more}
use Rattle.tib_grammar.proofs.determinism.check_rules.Goals as goal

pub returns-in-Some-clause-fault : goal.returns-in-Some-clause-fault
returns-in-Some-clause-fault c =
    let here : c.rule-item.result ≡ rule_at c.args.rules.now c.loop-rule.rule-index = get_or_read c.args.rules.now c.loop-rule.rule-index c.rule-item.result (omega arith) c.rule-item.is no_rule in
    let i = c.loop-rule.invariant in
    fault_here c.args.rules.now c.loop-rule.rule-index (c.loop-rule.number + 1) c.in-Some.fault (omega (arith, i.numbered)) (omega arith) i.shaped i.new
    (subst (λ r. IsShapeFault c.args.rules.now r (c.loop-rule.number + 1) (Some c.in-Some.fault)) here (c.in-Some.ensures c.args.rules.now c.start_stands_in-start_is_used.ensures))

pub returns-in-Some-2-clause-fault : goal.returns-in-Some-2-clause-fault
returns-in-Some-2-clause-fault c =
    let here : c.rule-item.result ≡ rule_at c.args.rules.now c.loop-rule.rule-index = get_or_read c.args.rules.now c.loop-rule.rule-index c.rule-item.result (omega arith) c.rule-item.is no_rule in
    let i = c.loop-rule.invariant in
    let shape = subst (λ r. IsShapeFault c.args.rules.now r (c.loop-rule.number + 1) None) here (c.in_default.ensures c.args.rules.now c.start_stands_in-start_is_used.ensures) in
    let noted = subst (λ o. IsNoted (map (λ s. s.now) c.loop-rule.sides.keys) c.items.result.now o (map (λ s. s.now) c.note.new.sides.keys)) c.in-Some-2.is c.in_ok-place.ensures in
    record {
      position = c.loop-rule.rule-index;
      numbered = omega (arith, i.numbered);
      below = omega arith;
      shaped = i.shaped;
      new = i.new;
      fault = IsShared-from _ c.args.rules.now c.loop-rule.rule-index i.noted c.items.result.now (c.items.ensures.items ∙ ap (λ r. preorder_of r.right) here) c.in-Some-2.place noted.0 shape;
    }

pub overflow_cast-result : goal.overflow_cast-result
overflow_cast-result c =
    let here : c.rule-item.result ≡ rule_at c.args.rules.now c.loop-rule.rule-index = get_or_read c.args.rules.now c.loop-rule.rule-index c.rule-item.result (omega arith) c.rule-item.is no_rule in
    let noted = subst (λ o. IsNoted (map (λ s. s.now) c.loop-rule.sides.keys) c.items.result.now o (map (λ s. s.now) c.note.new.sides.keys)) c.in-Some-2.is c.in_ok-place.ensures in
    let low = place_below _ c.args.rules.now c.loop-rule.rule-index c.loop-rule.invariant.noted c.items.result.now (c.items.ensures.items ∙ ap (λ r. preorder_of r.right) here) c.in-Some-2.place noted.0 in
    omega (arith, low)

pub overflow_add-result : goal.overflow_add-result
overflow_add-result c =
    let here : c.rule-item.result ≡ rule_at c.args.rules.now c.loop-rule.rule-index = get_or_read c.args.rules.now c.loop-rule.rule-index c.rule-item.result (omega arith) c.rule-item.is no_rule in
    let noted = subst (λ o. IsNoted (map (λ s. s.now) c.loop-rule.sides.keys) c.items.result.now o (map (λ s. s.now) c.note.new.sides.keys)) c.in-Some-2.is c.in_ok-place.ensures in
    let low = place_below _ c.args.rules.now c.loop-rule.rule-index c.loop-rule.invariant.noted c.items.result.now (c.items.ensures.items ∙ ap (λ r. preorder_of r.right) here) c.in-Some-2.place noted.0 in
    omega (arith, low)

pub loop-rule-preserved : goal.loop-rule-preserved
loop-rule-preserved c =
    let here : c.rule-item.result ≡ rule_at c.args.rules.now c.loop-rule.rule-index = get_or_read c.args.rules.now c.loop-rule.rule-index c.rule-item.result (omega arith) c.rule-item.is no_rule in
    let i = c.loop-rule.invariant in
    let shape = subst (λ r. IsShapeFault c.args.rules.now r (c.loop-rule.number + 1) None) here (c.in_default.ensures c.args.rules.now c.start_stands_in-start_is_used.ensures) in
    let noted = subst (λ o. IsNoted (map (λ s. s.now) c.loop-rule.sides.keys) c.items.result.now o (map (λ s. s.now) c.note.new.sides.keys)) c.in_default-2.is c.in_ok-place.ensures in
    let side = c.items.ensures.items ∙ ap (λ r. preorder_of r.right) here in
    record {
      numbered = omega (arith, i.numbered);
      shaped = upto (λ k. IsShaped c.args.rules.now (rule_at c.args.rules.now k)) c.loop-rule.rule-index i.shaped shape;
      new = upto (IsNew c.args.rules.now) c.loop-rule.rule-index i.new (IsNew-from _ c.args.rules.now c.loop-rule.rule-index i.noted c.items.result.now side noted.0);
      noted = AreFirstSides-more _ c.args.rules.now c.loop-rule.rule-index i.noted c.items.result.now side _ noted.1;
    }
