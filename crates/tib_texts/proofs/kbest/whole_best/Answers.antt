use Rattle.std.proofs.Common.{length}
use Rattle.tib_grammar_file.specs.Printed.{AreLabelled}
use Rattle.tib_texts.proofs.BestOf.{best_of_form, costs_free, labels_of_best, made_fault}
use Rattle.tib_texts.proofs.kbest.whole_best.Goals as goal

pub returns-in-Err-clause-err : goal.returns-in-Err-clause-err
returns-in-Err-clause-err g c =
    made_fault g.S.Semiring.LEVELLED g.S.Semiring.product c.args.limit c.args.k c.args.labels.now c.args.grammar.now c.in-Err.status c.in-Err.ensures.err

pub best_trees-requires-clause-free : goal.best_trees-requires-clause-free
best_trees-requires-clause-free g c =
    costs_free g.S.Semiring.SCALE g.S.Semiring.WEIGHTED g.met.S.Semiring.weighs c.args.labels.now c.in-Ok.form.rules (c.in-Ok.ensures.printable c.args.labels.now c.requires.printable)

pub best_trees-requires-clause-labelled : goal.best_trees-requires-clause-labelled
best_trees-requires-clause-labelled g c =
    c.printable_is_labelled.ensures g.S.Semiring.SCALE c.args.labels.now c.in-Ok.form.rules (c.in-Ok.ensures.printable c.args.labels.now c.requires.printable)

pub returns-in-Ok-best_trees-clause-best : goal.returns-in-Ok-best_trees-clause-best
returns-in-Ok-best_trees-clause-best g c =
    best_of_form g.S.Semiring.product c.args.grammar.now.rules c.in-Ok.form.rules c.in-Ok.ensures.series c.args.labels.now c.args.k c.in-Ok-best_trees.list c.in-Ok-best_trees.ensures.best

pub returns-in-Ok-best_trees-clause-labels : goal.returns-in-Ok-best_trees-clause-labels
returns-in-Ok-best_trees-clause-labels g c =
    let labelled : AreLabelled (length c.args.labels.now) c.in-Ok.form.rules =
    c.printable_is_labelled.ensures g.S.Semiring.SCALE c.args.labels.now c.in-Ok.form.rules (c.in-Ok.ensures.printable c.args.labels.now c.requires.printable) in
    labels_of_best g.S.Semiring.product c.in-Ok.form.rules c.args.labels.now labelled c.args.k c.in-Ok-best_trees.list c.in-Ok-best_trees.ensures.best
