use Rattle.std.proofs.Common.{[], subst}
use Rattle.std.proofs.lemmas.List.{get_or_read}
use Rattle.tib_determinize.specs.Holders.{AddsVector}
use Rattle.tib_determinize.specs.Vectors.{VectorOf}
use Rattle.tib_determinize.proofs.Holding.{next_holders}
use Rattle.tib_determinize.proofs.holders.add_vectors.Goals as goal

pub loop-position-preserved : goal.loop-position-preserved
loop-position-preserved c =
    let order = c.args.order.now in
    let p = c.loop-position.position in
    let at = get_or_read order p c.index-order-position.result c.loop-position-test.true c.index-order-position.is [] in
    next_holders c.args.marks.now order p c.loop-position.lists.items c.add_vector.new.lists.items c.loop-position-test.true
    (subst (λ (v : VectorOf). AddsVector c.args.marks.now v p c.loop-position.lists.items c.add_vector.new.lists.items) at c.in_ok-add_vector.ensures)
    c.loop-position.invariant
