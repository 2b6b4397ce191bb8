use Rattle.std.proofs.Common.{arith, ◌≡◌, ℕ, length, refl, ap, sym, ◌∙◌}
use Rattle.tib_tree.specs.Trees.{count}
use Rattle.tib_grammar.specs.declared.Rule.{Rule}
use Rattle.tib_weigh.proofs.Places.{rule_here}
use Rattle.tib_weigh.proofs.Filing.{state_is}
use Rattle.tib_weigh.proofs.slots.rest_of.Goals as goal

pub returns-then-agree_beside-clause-beside : goal.returns-then-agree_beside-clause-beside
returns-then-agree_beside-clause-beside c i h other =
    let first = rule_here c.args.rules.now c.args.rest c.index-rules-rest.result c.requires.rest.below c.index-rules-rest.is in
    let second = rule_here c.args.rules.now c.args.position c.index-rules-position.result c.requires.position.below c.index-rules-position.is in
    let long : length c.states_below-first.result.now ≡ c.args.rank = c.states_below-first.ensures.many ∙ ap (λ (r : Rule ℕ). count r.right.kids) first ∙ c.requires.rest.many in
    state_is c.args.rules.now c.args.rest i c.index-rules-rest.result c.states_below-first.result.now _ first c.states_below-first.ensures.states refl
    ∙ c.agree_beside.ensures c.if-agree_beside.true i (omega (arith, h, long)) other
    ∙ sym (state_is c.args.rules.now c.args.position i c.index-rules-position.result c.states_below-second.result.now _ second c.states_below-second.ensures.states refl)
