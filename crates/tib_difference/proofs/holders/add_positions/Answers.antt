use Rattle.std.proofs.Common.{[], ap, sym, nat_eq}
use Rattle.std.proofs.lemmas.List.{get_or_read}
use Rattle.tib_key_edges.proofs.Places.{places-one}
use Rattle.tib_difference.specs.Difference.{KeyOf}
use Rattle.tib_difference.proofs.holders.add_positions.Goals as goal

pub loop-position-preserved : goal.loop-position-preserved
loop-position-preserved c = λ q.
    let p = c.loop-position.position in
    let low = c.loop-position-test.true in
    let at = get_or_read c.args.order.now p c.index-order-position.result low c.index-order-position.is (0, []) in
    places-one (λ (k : KeyOf). nat_eq k.0 q) c.args.order.now p (0, []) low (nat_eq c.state-state.result q) c.index-order-position.result at (ap (λ s. nat_eq s q) (sym c.state-state.ensures)) _ _
    (c.loop-position.invariant q) (c.in_ok-add.ensures q)
