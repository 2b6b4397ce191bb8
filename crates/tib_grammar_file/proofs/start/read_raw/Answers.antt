use Rattle.std.proofs.Common.{arith, ap, length}
use Rattle.tib_grammar_file.proofs.AddedLabels.{one_longer}
use Rattle.tib_grammar_file.proofs.Begins.{whole_read, whole_failed}
use Rattle.tib_grammar_file.proofs.start.read_raw.Goals as goal

pub find_start-requires-clause-room : goal.find_start-requires-clause-room
find_start-requires-clause-room c = omega (arith, ap length c.requires.names)

pub read_rules-requires-clause-names : goal.read_rules-requires-clause-names
read_rules-requires-clause-names c =
    omega (arith, ap length c.requires.names, one_longer c.args.names.now c.in-Ok.ensures.start c.find_start.new.names c.in-Ok.ensures.adds, c.requires.short)

pub read_rules-requires-clause-texts : goal.read_rules-requires-clause-texts
read_rules-requires-clause-texts c = omega (arith, ap length c.requires.texts, c.requires.short)

pub returns-in-Err-clause-raw : goal.returns-in-Err-clause-raw
returns-in-Err-clause-raw c = whole_failed c.args.scale c.args.names.now c.find_start.new.names c.args.texts.now c.args.bytes.now c.in-Err.error c.in-Err.ensures

pub returns-clause-raw : goal.returns-clause-raw
returns-clause-raw c = whole_read c.args.scale c.args.names.now c.find_start.new.names c.read_rules.new.names c.read_rules.new.texts c.args.bytes.now c.in-Ok.begun c.read_rules.result c.in-Ok.ensures c.read_rules.ensures.rules
