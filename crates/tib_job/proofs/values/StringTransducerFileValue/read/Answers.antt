use Rattle.std.proofs.lemmas.Result.{IfOk-weaker}
use Rattle.tib_job.specs.Kinds.{of_string_transducer, IsTextOf}
use Rattle.tib_job.specs.Values.{IsPrintableValue}
use Rattle.tib_job.proofs.ReadValues.{by_scale}
use Rattle.tib_operations.proofs.WordsRead.{words_plain}
use Rattle.tib_job.proofs.values.StringTransducerFileValue.read.Goals as goal

pub returns-clause-text : goal.returns-clause-text
returns-clause-text g c =
    IfOk-weaker c.read_string_transducer.result _ _
    (λ transducer is scale same. by_scale (λ s. IsTextOf s c.read_string_transducer.new.labels of_string_transducer transducer c.args.bytes.now) g.S.Semiring.SCALE scale same (c.requires.short, is))
    c.read_string_transducer.ensures.text

pub returns-clause-printable : goal.returns-clause-printable
returns-clause-printable g c =
    IfOk-weaker c.read_string_transducer.result _ _
    (λ transducer is scale same.
    by_scale (λ s. IsPrintableValue s c.read_string_transducer.new.labels of_string_transducer transducer) g.S.Semiring.SCALE scale same
    (words_plain g.S.Semiring.SCALE c.read_string_transducer.new.labels c.args.bytes.now transducer is))
    c.read_string_transducer.ensures.text
