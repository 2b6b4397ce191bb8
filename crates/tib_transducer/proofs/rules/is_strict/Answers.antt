use Rattle.std.proofs.Common.{sym, ◌∙◌}
use Rattle.tib_transducer.proofs.Shapes.{begins_from, begins_not}
use Rattle.tib_transducer.proofs.rules.is_strict.Goals as goal

pub returns-clause-yes : goal.returns-clause-yes
returns-clause-yes c = λ t. begins_from c.items.result.now c.args.rule.now.right c.items.ensures.items (sym c.begins_with_label.ensures ∙ t)

pub returns-clause-no : goal.returns-clause-no
returns-clause-no c = λ f. begins_not c.items.result.now c.args.rule.now.right c.items.ensures.items (sym c.begins_with_label.ensures ∙ f)
