use Rattle.std.proofs.lemmas.Result.{IfOk-weaker}
use Rattle.tib_transducer_file.proofs.ReadBack.{read_back}
use Rattle.tib_operations.proofs.OfCompose.{read_moves}
use Rattle.tib_operations.proofs.PlainMoves.{moves_plain}
use Rattle.tib_job.specs.Kinds.{of_transducer, IsTextOf}
use Rattle.tib_job.specs.Values.{IsPrintableValue}
use Rattle.tib_job.proofs.ReadValues.{by_scale}
use Rattle.tib_job.proofs.values.TransducerFileValue.read.Goals as goal

pub returns-clause-text : goal.returns-clause-text
returns-clause-text g c =
    IfOk-weaker c.read_transducer.result _ _
    (λ transducer is scale same. by_scale (λ s. IsTextOf s c.read_transducer.new.labels of_transducer transducer c.args.bytes.now) g.S.Semiring.SCALE scale same (c.requires.short, is))
    c.read_transducer.ensures.text

pub returns-clause-printable : goal.returns-clause-printable
returns-clause-printable g c =
    IfOk-weaker c.read_transducer.result _ _
    (λ transducer is scale same.
    by_scale (λ s. IsPrintableValue s c.read_transducer.new.labels of_transducer transducer) g.S.Semiring.SCALE scale same (
      moves_plain g.S.Semiring.SCALE c.read_transducer.new.labels c.args.bytes.now transducer is,
      read_moves g.S.Semiring.SCALE c.read_transducer.new.labels c.args.bytes.now transducer is,
      (read_back g.S.Semiring.SCALE c.read_transducer.new.labels c.args.bytes.now transducer is).0,
    ))
    c.read_transducer.ensures.text
