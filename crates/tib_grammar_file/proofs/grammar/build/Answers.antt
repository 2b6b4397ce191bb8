use Rattle.tib_grammar_file.proofs.TextRead.{built_over, built}
use Rattle.tib_grammar_file.proofs.grammar.build.Goals as goal

pub resolve_rules-requires-clause-raw : goal.resolve_rules-requires-clause-raw
resolve_rules-requires-clause-raw g c = (c.requires.source.1, c.requires.source.2.raw_is)

pub from_labels-requires : goal.from_labels-requires
from_labels-requires g c = c.requires.source.2.sound

pub grammar_over-requires : goal.grammar_over-requires
grammar_over-requires g c =
    let b = built_over c.args.names c.args.texts.now c.resolve_rules.new.labels c.from_labels.result c.args.raw.now c.requires.source.0 c.requires.source.1 c.in_ok-rules.rules.items c.requires.source.2 c.from_labels.ensures (c.in_ok-rules.ensures.rules c.requires.source.1 c.requires.source.2.raw_is) in
    record { start = b.0; range = b.1; few = b.2 }

pub returns-clause-grammar : goal.returns-clause-grammar
returns-clause-grammar g c = λ start lines s. built c.args.names c.args.texts.now c.resolve_rules.new.labels c.from_labels.result c.args.raw.now start lines c.in_ok-rules.rules.items c.grammar_over.result s c.from_labels.ensures c.grammar_over.ensures.names c.grammar_over.ensures.rules (c.in_ok-rules.ensures.rules lines s.raw_is)
