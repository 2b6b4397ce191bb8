use Rattle.std.proofs.Common.{arith}
use Rattle.tib_grammar_file.proofs.AddedLabels.{rules_added, kept_as_it_was}
use Rattle.tib_grammar_file.proofs.FirstFaults.{cause_of}
use Rattle.tib_grammar_file.proofs.TextRead.{source_of, read_as, text_labelled}
use Rattle.tib_grammar_file.proofs.grammar.read_grammar.Goals as goal

pub build-requires-clause-source : goal.build-requires-clause-source
build-requires-clause-source g c = source_of _ c.args.bytes.now c.new-names.result c.read_raw.new.names c.read_raw.new.texts c.in-Ok.raw c.requires.short c.new-names.ensures c.in-Ok.ensures.raw

pub returns-in-Ok-build-clause-text : goal.returns-in-Ok-build-clause-text
returns-in-Ok-build-clause-text g c =
    read_as g.S.Semiring.SCALE _ c.build.new.labels c.args.bytes.now c.new-names.result c.read_raw.new.names c.read_raw.new.texts c.in-Ok.raw c.in-Ok-build.grammar c.SCALE.ensures c.new-names.ensures c.requires.short c.in-Ok.ensures.raw c.in-Ok-build.ensures.grammar

pub returns-in-Ok-build-clause-labelled : goal.returns-in-Ok-build-clause-labelled
returns-in-Ok-build-clause-labelled g c =
    text_labelled g.S.Semiring.SCALE c.build.new.labels c.args.bytes.now c.in-Ok-build.grammar
    (read_as g.S.Semiring.SCALE _ c.build.new.labels c.args.bytes.now c.new-names.result c.read_raw.new.names c.read_raw.new.texts c.in-Ok.raw c.in-Ok-build.grammar c.SCALE.ensures c.new-names.ensures c.requires.short c.in-Ok.ensures.raw c.in-Ok-build.ensures.grammar)

pub returns-clause-fault : goal.returns-clause-fault
returns-clause-fault g c = cause_of g.S.Semiring.SCALE _ c.new-names.result c.read_raw.new.names c.read_raw.new.texts c.args.bytes.now c.in-Err.error c.SCALE.ensures c.in-Err.ensures.raw

pub build-requires-clause-room : goal.build-requires-clause-room
build-requires-clause-room g c = omega (arith, c.in-Ok.ensures.few, c.requires.room)

pub returns-in-Ok-build-clause-added : goal.returns-in-Ok-build-clause-added
returns-in-Ok-build-clause-added g c = rules_added c.args.labels.now c.build.new.labels c.in-Ok-build.grammar.rules c.in-Ok-build.ensures.added

pub returns-clause-kept : goal.returns-clause-kept
returns-clause-kept g c = kept_as_it_was c.in-Err.error c.args.labels.now
