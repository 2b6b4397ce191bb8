use Rattle.std.proofs.lemmas.Result.{IfOk-weaker}
use Rattle.tib_operations.proofs.OfTrim.{trimmed_printable, trim_text}
use Rattle.tib_operations.proofs.ReadSound.{IsSound}
use Rattle.tib_texts.proofs.trim.trimmed_text.Goals as goal

pub text_of-requires : goal.text_of-requires
text_of-requires g c =
    let sound : IsSound c.args.grammar = record { start = c.is_sound.ensures.start; names = c.is_sound.ensures.names; range = c.is_sound.ensures.range; leaves = c.is_sound.ensures.leaves } in
    c.printable_is_labelled.ensures g.S.Semiring.SCALE c.args.labels.now c.in-Ok.kept.rules
    (trimmed_printable g.S.Semiring.product c.args.grammar c.in-Ok.kept sound c.in-Ok.ensures.trimmed g.S.Semiring.SCALE c.args.labels.now c.requires)

pub returns-in-Ok-clause-text : goal.returns-in-Ok-clause-text
returns-in-Ok-clause-text g c =
    let sound : IsSound c.args.grammar = record { start = c.is_sound.ensures.start; names = c.is_sound.ensures.names; range = c.is_sound.ensures.range; leaves = c.is_sound.ensures.leaves } in
    IfOk-weaker c.text_of.result _ _
    (λ text e. trim_text g.S.Semiring.product c.args.grammar c.in-Ok.kept sound c.in-Ok.ensures.trimmed g.S.Semiring.SCALE c.args.labels.now c.requires c.in-Ok.ensures.runs c.in-Ok.ensures.series text.bytes e)
    c.text_of.ensures.text
