use Rattle.std.proofs.lemmas.Result.{IfOk-weaker}
use Rattle.tib_canon.proofs.TransducerOne.{order_of, kept_printable}
use Rattle.tib_canon.proofs.transducer_ordering.in_order.Goals as goal

pub sorted-requires-clause-printable : goal.sorted-requires-clause-printable
sorted-requires-clause-printable g c = kept_printable g.S.Semiring.SCALE c.args.labels.now c.args.rules.items c.in_ok-merged.merged.rules c.in_ok-merged.ensures.merged.kept c.requires.moves.printable

pub sorted-requires-clause-apart : goal.sorted-requires-clause-apart
sorted-requires-clause-apart g c = c.in_ok-merged.ensures.merged.apart

pub returns-clause-in_order : goal.returns-clause-in_order
returns-clause-in_order g c =
    IfOk-weaker c.sorted.result _ _
    (λ h s. order_of g.S.Semiring.SCALE c.args.labels.now c.args.states c.args.rules.items c.in_ok-merged.merged h.transducer c.in_ok-merged.ensures.names c.in_ok-merged.ensures.merged s) c.sorted.ensures.sorted
