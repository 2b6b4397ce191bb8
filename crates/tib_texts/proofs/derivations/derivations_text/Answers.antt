use Rattle.std.proofs.lemmas.Result.{IfOk-weaker}
use Rattle.tib_operations.proofs.OfRuns.{runs_text}
use Rattle.tib_operations.proofs.DerivationsThere.{are_there}
use Rattle.tib_texts.proofs.derivations.derivations_text.Goals as goal

pub text_of-requires-clause-labelled : goal.text_of-requires-clause-labelled
text_of-requires-clause-labelled g c = c.printable_is_labelled.ensures g.S.Semiring.SCALE c.args.labels.now c.args.grammar.rules c.requires.text.printable

pub returns-clause-text : goal.returns-clause-text
returns-clause-text g c =
    let there = are_there c.args.labels.now c.args.grammar c.len.ensures.distinct in
    IfOk-weaker c.text_of.result _ _
    (λ text e. runs_text g.S.Semiring.SCALE c.args.labels.now there.all there.grows c.args.grammar c.requires.text c.requires.small there.transducer there.derivations
    g.S.Semiring.product text.bytes there.distinct there.adds (e there.all there.transducer there.grows there.derivations))
    c.text_of.ensures.text
