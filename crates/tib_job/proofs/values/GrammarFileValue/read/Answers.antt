use Rattle.std.proofs.lemmas.Result.{IfOk-weaker}
use Rattle.tib_operations.proofs.OfRuns.{read_has_text}
use Rattle.tib_job.specs.Kinds.{of_grammar, IsTextOf}
use Rattle.tib_job.specs.Values.{IsPrintableValue}
use Rattle.tib_job.proofs.ReadValues.{by_scale}
use Rattle.tib_job.proofs.values.GrammarFileValue.read.Goals as goal

pub returns-clause-text : goal.returns-clause-text
returns-clause-text g c =
    IfOk-weaker c.read_grammar.result _ _
    (λ grammar is scale same. by_scale (λ s. IsTextOf s c.read_grammar.new.labels of_grammar grammar c.args.bytes.now) g.S.Semiring.SCALE scale same (c.requires.short, is))
    c.read_grammar.ensures.text

pub returns-clause-printable : goal.returns-clause-printable
returns-clause-printable g c =
    IfOk-weaker c.read_grammar.result _ _
    (λ grammar is scale same.
    by_scale (λ s. IsPrintableValue s c.read_grammar.new.labels of_grammar grammar) g.S.Semiring.SCALE scale same (
      c.read_grammars_are_printable.ensures g.S.Semiring.SCALE c.read_grammar.new.labels c.args.bytes.now grammar is.text,
      read_has_text g.S.Semiring.SCALE c.read_grammar.new.labels c.args.bytes.now grammar is.text,
      is.small,
    ))
    c.read_grammar.ensures.text
