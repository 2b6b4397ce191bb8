use Rattle.std.proofs.lemmas.Result.{IfOk-weaker}
use Rattle.tib_operations.proofs.OfThrough.{through_printable, through_text}
use Rattle.tib_operations.proofs.ReadSound.{IsSound}
use Rattle.tib_texts.proofs.trim.through_text.Goals as goal

pub text_of-requires : goal.text_of-requires
text_of-requires g c =
    let sound : IsSound c.args.grammar = record { start = c.is_sound.ensures.start; names = c.is_sound.ensures.names; range = c.is_sound.ensures.range; leaves = c.is_sound.ensures.leaves } in
    c.printable_is_labelled.ensures g.S.Semiring.SCALE c.args.labels.now c.in-Ok.costed.rules
    (through_printable g.met.S.Semiring.laws g.S.Semiring.SCALE c.args.labels.now c.args.grammar c.in-Ok.costed sound c.requires c.in-Ok.ensures)

pub returns-in-Ok-clause-text : goal.returns-in-Ok-clause-text
returns-in-Ok-clause-text g c =
    let sound : IsSound c.args.grammar = record { start = c.is_sound.ensures.start; names = c.is_sound.ensures.names; range = c.is_sound.ensures.range; leaves = c.is_sound.ensures.leaves } in
    IfOk-weaker c.text_of.result _ _
    (λ text e. through_text g.met.S.Semiring.laws g.S.Semiring.SCALE c.args.labels.now c.args.grammar c.in-Ok.costed sound c.requires c.in-Ok.ensures text.bytes e)
    c.text_of.ensures.text
