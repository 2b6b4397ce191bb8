use Rattle.std.proofs.Common.{sym, subst}
use Rattle.std.proofs.lemmas.Result.{IfOk-weaker, IfErr-weaker, IfOk-at_ok}
use Rattle.tib_strings.specs.StringTransducerOf.{StringTransducerOf}
use Rattle.tib_operations.specs.Words.{ArePlainWords}
use Rattle.tib_operations.proofs.OfDomain.{domain_plain, domain_text, domain_fault}
use Rattle.tib_operations.proofs.OfForward.{are_linear}
use Rattle.tib_hunted_texts.proofs.domain.domain_of_together.Goals as goal

pub parse_of_together-requires-clause-transducer : goal.parse_of_together-requires-clause-transducer
parse_of_together-requires-clause-transducer g c κs within =
    subst (λ (d : StringTransducerOf). ArePlainWords g.S.Semiring.SCALE c.args.labels.now d.rules) (sym c.in-Ok.ensures.domain)
    (domain_plain c.args.labels.now g.S.Semiring.SCALE c.args.transducer c.is_sound.ensures.leaves c.requires.transducer)

pub returns-clause-grammar : goal.returns-clause-grammar
returns-clause-grammar g c =
    IfOk-weaker c.parse_of_together.result _ _
    (λ h p. domain_text g.S.Semiring.SCALE g.S.Semiring.product c.args.limit c.args.labels.now c.args.transducer c.in-Ok.moves c.in-Ok.ensures.domain c.in-Ok.ensures.series h.text.bytes h.grammar p)
    c.parse_of_together.ensures.grammar

pub returns-clause-text : goal.returns-clause-text
returns-clause-text g c = IfOk-weaker c.parse_of_together.result _ _ (λ h p. p.0) (returns-clause-grammar g c)

pub returns-clause-err : goal.returns-clause-err
returns-clause-err g c =
    IfErr-weaker c.parse_of_together.result _ _
    (domain_fault c.args.limit c.args.transducer c.in-Ok.moves c.in-Ok.ensures.domain (IfOk-at_ok _ c.in-Ok.is (c.domain_transducer.ensures.linear (are_linear c.args.transducer.rules c.requires.class))) c.in-Ok.ensures.nondeleting)
    c.parse_of_together.ensures.err
