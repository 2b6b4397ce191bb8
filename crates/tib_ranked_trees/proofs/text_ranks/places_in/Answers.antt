use Rattle.std.proofs.Common.{rules, arith, length, get_or, ◌<◌, ◌≡◌, subst, refl}
use Rattle.std.proofs.lemmas.List.Elements.{Contains-get_or}
use Rattle.tib_ranked_trees.proofs.Placed.{ArePlaced, one_placed, places_apart, places_rank}
use Rattle.tib_ranked_trees.proofs.text_ranks.places_in.Goals as goal

pub index_mut-requires : goal.index_mut-requires
index_mut-requires c =
    let low : get_or c.args.order.now c.loop-place.place 0 < length c.args.labels.now = c.requires.all.below _ (Contains-get_or c.args.order.now c.loop-place.place 0 c.loop-place-test.true) in
    let long = c.loop-place.invariant.long in
    search (rules, low, long)

pub loop-place-preserved : goal.loop-place-preserved
loop-place-preserved c =
    let low : get_or c.args.order.now c.loop-place.place 0 < length c.args.labels.now = c.requires.all.below _ (Contains-get_or c.args.order.now c.loop-place.place 0 c.loop-place-test.true) in
    one_placed c.args.order.now c.loop-place.ranks.items _ (length c.args.labels.now) c.loop-place.place c.loop-place.invariant low (search rules) refl

pub returns-clause-places : goal.returns-clause-places
returns-clause-places c =
    let end : c.loop-place.place ≡ length c.args.order.now = omega (arith, c.loop-place-test.false, c.loop-place.auto.place-end) in
    places_apart c.args.labels.now c.args.order.now c.loop-place.ranks.items c.requires
    (subst (λ n. ArePlaced c.args.order.now c.loop-place.ranks.items (length c.args.labels.now) n) end c.loop-place.invariant)

pub returns-clause-order : goal.returns-clause-order
returns-clause-order c =
    let end : c.loop-place.place ≡ length c.args.order.now = omega (arith, c.loop-place-test.false, c.loop-place.auto.place-end) in
    places_rank c.args.labels.now c.args.order.now c.loop-place.ranks.items c.len-count.ensures.distinct c.requires
    (subst (λ n. ArePlaced c.args.order.now c.loop-place.ranks.items (length c.args.labels.now) n) end c.loop-place.invariant)
