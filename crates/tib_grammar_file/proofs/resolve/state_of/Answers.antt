use Rattle.std.proofs.Common.{◌<◌, length, arith}
use Rattle.std.specs.Prelude.{None}
use Rattle.std.proofs.lemmas.List.{get_or_read}
use Rattle.tib_grammar_file.specs.Resolve.{IsStateOf}
use Rattle.tib_grammar_file.proofs.Alongs.{along_long}
use Rattle.tib_grammar_file.proofs.Resolved.{leaf_at}
use Rattle.tib_grammar_file.proofs.resolve.state_of.Goals as goal

pub index-requires : goal.index-requires
index-requires c = omega (arith, along_long (IsStateOf c.args.tables.now.names.now) c.args.tables.now.states.items c.args.tables.now.texts.now c.requires.states, c.requires.text)

pub returns-in-None : goal.returns-in-None
returns-in-None c = λ text at.
    let inside : c.args.item.text < length c.args.tables.now.states.items = omega (arith, along_long (IsStateOf c.args.tables.now.names.now) c.args.tables.now.states.items c.args.tables.now.texts.now c.requires.states, c.requires.text) in
    leaf_at c.args.tables.now.names.now c.args.tables.now.texts.now c.args.tables.now.states.items c.args.item c.index.result.now text c.requires.states
    (get_or_read c.args.tables.now.states.items c.args.item.text c.index.result.now inside c.index.ensures None) c.if-item.false c.in-None.is at
