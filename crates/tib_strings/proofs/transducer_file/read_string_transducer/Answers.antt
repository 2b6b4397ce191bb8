use Rattle.std.proofs.Common.{refl}
use Rattle.tib_strings.proofs.FileText.{reads_as, rules_ready}
use Rattle.tib_strings.proofs.LabelsHeld.{text_labelled}
use Rattle.tib_strings.proofs.transducer_file.read_string_transducer.Goals as goal

pub transducer_over-requires-clause-start : goal.transducer_over-requires-clause-start
transducer_over-requires-clause-start g c = (rules_ready g.S.Semiring.SCALE c.args.bytes.now c.in-Ok.file.names c.in-Ok.file.names c.read_file.new.labels c.in-Ok.file.rules.items c.in-Ok.ensures.file refl).0

pub transducer_over-requires-clause-range : goal.transducer_over-requires-clause-range
transducer_over-requires-clause-range g c = (rules_ready g.S.Semiring.SCALE c.args.bytes.now c.in-Ok.file.names c.in-Ok.file.names c.read_file.new.labels c.in-Ok.file.rules.items c.in-Ok.ensures.file refl).1

pub transducer_over-requires-clause-shaped : goal.transducer_over-requires-clause-shaped
transducer_over-requires-clause-shaped g c = (rules_ready g.S.Semiring.SCALE c.args.bytes.now c.in-Ok.file.names c.in-Ok.file.names c.read_file.new.labels c.in-Ok.file.rules.items c.in-Ok.ensures.file refl).2

pub returns-in-Ok-clause-text : goal.returns-in-Ok-clause-text
returns-in-Ok-clause-text g c =
    reads_as g.S.Semiring.SCALE c.args.bytes.now c.in-Ok.file.names c.in-Ok.file.names c.read_file.new.labels c.in-Ok.file.rules.items c.transducer_over.result c.in-Ok.ensures.file refl c.transducer_over.ensures.names c.transducer_over.ensures.rules

pub returns-in-Ok-clause-labelled : goal.returns-in-Ok-clause-labelled
returns-in-Ok-clause-labelled g c =
    text_labelled g.S.Semiring.SCALE c.read_file.new.labels c.args.bytes.now c.transducer_over.result
    (reads_as g.S.Semiring.SCALE c.args.bytes.now c.in-Ok.file.names c.in-Ok.file.names c.read_file.new.labels c.in-Ok.file.rules.items c.transducer_over.result c.in-Ok.ensures.file refl c.transducer_over.ensures.names c.transducer_over.ensures.rules)
