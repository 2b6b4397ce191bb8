use Rattle.tib_grammar_file.proofs.AddedLabels.{interned_few}
use Rattle.tib_grammar_file.proofs.raw.read_name.Goals as goal

pub returns-clause-few : goal.returns-clause-few
returns-clause-few c = interned_few c.args.names.now c.intern_token.new.labels _ c.intern_token.result c.intern_token.ensures.added c.intern_token.ensures.err
