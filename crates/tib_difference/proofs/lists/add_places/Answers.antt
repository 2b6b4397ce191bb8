use Rattle.std.proofs.Common.{arith, ◌<◌, ◌≤◌, ℕ, ap, ◌∙◌, length, List, get_or}
use Rattle.std.proofs.lemmas.List.{get_or_read}
use Rattle.tib_tree.specs.Trees.{count}
use Rattle.tib_grammar.specs.Run.{no_rule, rule_at}
use Rattle.tib_grammar.specs.Sides.{holes}
use Rattle.tib_grammar.specs.declared.Rule.{Rule}
use Rattle.tib_grammar.proofs.Sides.{length-holes}
use Rattle.tib_difference.specs.Held.{held}
use Rattle.tib_difference.specs.Tries.{states_in}
use Rattle.tib_difference.proofs.Placing.{place_added, place_all}
use Rattle.tib_difference.proofs.lists.add_places.Goals as goal

pub loop-place-preserved : goal.loop-place-preserved
loop-place-preserved c = λ q.
    let rules = c.args.rules.now in
    let at = get_or_read rules c.args.number c.index-rules-number.result c.requires.below c.index-rules-number.is no_rule in
    let many = ap (λ (r : Rule ℕ). count r.right.kids) at in
    let long = length-holes (rule_at rules c.args.number).right.kids (c.requires.normal c.args.number c.requires.below).are_holes in
    let low : c.loop-place.place < length (states_in rules c.args.number) = omega (arith, many, long, c.root-rank.ensures.rank, c.loop-place-test.true) in
    let state = c.state_at-state.ensures ∙ ap (λ (xs : List ℕ). get_or xs c.loop-place.place 0) (c.states_below-states.ensures.states ∙ ap (λ (r : Rule ℕ). holes r.right.kids) at) in
    place_added (held c.args.lists.now.items q) (held c.loop-place.lists.items q) (held c.add.new.lists.items q) _ c.loop-place.place q c.state_at-state.result (states_in rules c.args.number) low state
    (c.loop-place.invariant q) (c.in_ok-add.ensures q)

pub returns : goal.returns
returns c = λ q.
    let rules = c.args.rules.now in
    let at = get_or_read rules c.args.number c.index-rules-number.result c.requires.below c.index-rules-number.is no_rule in
    let many = ap (λ (r : Rule ℕ). count r.right.kids) at in
    let long = length-holes (rule_at rules c.args.number).right.kids (c.requires.normal c.args.number c.requires.below).are_holes in
    let high : length (states_in rules c.args.number) ≤ c.loop-place.place = omega (arith, many, long, c.root-rank.ensures.rank, c.loop-place-test.false) in
    place_all (held c.args.lists.now.items q) (held c.loop-place.lists.items q) _ c.loop-place.place q (states_in rules c.args.number) high (c.loop-place.invariant q)
