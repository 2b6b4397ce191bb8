use Rattle.tib_grammar_file.proofs.AddedLabels.{one_longer, plain_text}
use Rattle.tib_grammar_file.proofs.resolve.resolve_item.Goals as goal

pub intern-requires-clause-plain : goal.intern-requires-clause-plain
intern-requires-clause-plain c = plain_text c.args.tables.now.texts.now c.args.item.text c.text-text.result.now c.requires.plain c.text-text.ensures

pub returns-clause-added : goal.returns-clause-added
returns-clause-added c = (c.text-text.result.now, c.in_ok-label.ensures.named, c.in_ok-label.ensures.adds)

pub returns-clause-few : goal.returns-clause-few
returns-clause-few c = one_longer c.args.labels.now c.text-text.result.now c.intern.new.self c.in_ok-label.ensures.adds
