use Rattle.indexmap.specs.IndexSet.{keys}
use Rattle.tib_grammar_file.specs.Found.{text_at}
use Rattle.tib_transducer_file.specs.Reader.{source_parts}
use Rattle.tib_transducer_file.proofs.LinesRead.{check_failed}
use Rattle.tib_transducer_file.proofs.rules.check.Goals as goal

pub returns-in-Err : goal.returns-in-Err
returns-in-Err c = check_failed c.args.scale (source_parts c.args.source.now) (keys c.check_variables.new.variables) c.args.source.now.left.now c.args.source.now.right.now c.in-Err.error (c.in-Err.ensures (text_at c.args.source.now.line.now c.args.source.now.found.weight))
