use Rattle.std.proofs.Common.{length, subst, sym}
use Rattle.std.specs.Prelude.{IfErr}
use Rattle.tib_canon.proofs.One.{if_ok}
use Rattle.tib_grammar.specs.GrammarOf.{GrammarOf}
use Rattle.tib_grammar_file.specs.Printable.{ArePrintable}
use Rattle.tib_operations.specs.Made.{IsMadeFault}
use Rattle.tib_operations.specs.Normal.{IsNormalText, normal_makes}
use Rattle.tib_operations.specs.Union.{HasUnionText, IsUnionText}
use Rattle.tib_operations.proofs.OfUnion.{union_text}
use Rattle.tib_union.proofs.SumTexts.{sum_printable}
use Rattle.tib_texts.proofs.union.union_of.Goals as goal

pub canonical_normal-requires-clause-printable : goal.canonical_normal-requires-clause-printable
canonical_normal-requires-clause-printable g c =
    subst (λ (n : GrammarOf). ArePrintable g.S.Semiring.SCALE c.args.labels.now n.rules) (sym c.in-Ok.ensures.sum)
    (sum_printable g.S.Semiring.SCALE c.args.labels.now (length c.args.first.names) c.args.first.rules c.args.second.rules c.requires.first c.requires.second)

pub returns-clause-grammar : goal.returns-clause-grammar
returns-clause-grammar g c =
    if_ok (λ h. IsNormalText g.S.Semiring.SCALE g.S.Semiring.product c.args.limit c.args.labels.now c.in-Ok.sum h.text.bytes h.grammar)
    (λ h. IsUnionText g.S.Semiring.SCALE g.S.Semiring.product c.args.limit c.args.labels.now c.args.first c.args.second h.text.bytes h.grammar) c.canonical_normal.result
    (λ h is. union_text g.S.Semiring.SCALE g.S.Semiring.product c.args.limit c.args.labels.now c.args.first c.args.second c.in-Ok.sum h.grammar h.text.bytes c.in-Ok.ensures.sum c.in-Ok.ensures.series is) c.canonical_normal.ensures.grammar

pub returns-clause-text : goal.returns-clause-text
returns-clause-text g c =
    if_ok (λ h. IsUnionText g.S.Semiring.SCALE g.S.Semiring.product c.args.limit c.args.labels.now c.args.first c.args.second h.text.bytes h.grammar)
    (λ h. HasUnionText g.S.Semiring.SCALE g.S.Semiring.product c.args.limit c.args.labels.now c.args.first c.args.second h.text.bytes) c.canonical_normal.result (λ h is. is.0) (returns-clause-grammar g c)

pub returns-clause-err : goal.returns-clause-err
returns-clause-err g c =
    subst (λ (n : GrammarOf). IfErr c.canonical_normal.result (IsMadeFault (normal_makes g.S.Semiring.product c.args.limit n).more c.args.limit)) c.in-Ok.ensures.sum c.canonical_normal.ensures.err
