use Rattle.tib_transducer.proofs.Labels.{labelled_from, labelled_to}
use Rattle.tib_transducer.proofs.rules.is_labelled.Goals as goal

pub returns-clause-yes : goal.returns-clause-yes
returns-clause-yes c = λ t. labelled_from c.args.rule.now c.items.result.now c.items.ensures.items (c.have_label.ensures.yes t)

pub returns-clause-no : goal.returns-clause-no
returns-clause-no c = λ f h. c.have_label.ensures.no f (labelled_to c.args.rule.now c.items.result.now c.items.ensures.items h)
