use Rattle.std.proofs.Common.{length, ap, subst, sym, ◌∙◌}
use Rattle.std.proofs.lemmas.Result.{IfOk-weaker}
use Rattle.tib_transducer.specs.TransducerOf.{TransducerOf}
use Rattle.tib_transducer_file.specs.Labelled.{AreLabelled}
use Rattle.tib_transducer_file.specs.Printed.{transducer_text}
use Rattle.tib_canon.proofs.Sorted.{all_labelled}
use Rattle.tib_rulewise.specs.Inverse.{inverse_of}
use Rattle.tib_operations.proofs.OfInvert.{inverse_has_text, inverse_text}
use Rattle.tib_texts.proofs.inverse.inverse_text.Goals as goal

pub printed_transducer-requires : goal.printed_transducer-requires
printed_transducer-requires g c =
    subst (λ (t : TransducerOf). AreLabelled (length c.args.labels.now) t.rules) (sym c.in-Ok.ensures.inverse)
    (all_labelled g.S.Semiring.SCALE c.args.labels.now (inverse_of c.args.transducer).rules
    (inverse_has_text g.met.S.Semiring.laws g.S.Semiring.SCALE c.args.labels.now c.args.transducer c.requires.text c.requires.class).printable)

pub returns-clause-text : goal.returns-clause-text
returns-clause-text g c =
    IfOk-weaker c.printed_transducer.result _ _
    (λ text e. inverse_text g.met.S.Semiring.laws g.S.Semiring.SCALE c.args.labels.now c.args.transducer c.requires.text c.requires.class text.bytes
    (e ∙ ap (transducer_text g.S.Semiring.SCALE c.args.labels.now) c.in-Ok.ensures.inverse))
    c.printed_transducer.ensures.text
