use Rattle.std.proofs.Common.{length}
use Rattle.tib_grammar_file.specs.Printed.{AreLabelled}
use Rattle.tib_texts.proofs.BestOf.{best_of_form, labels_of_best}
use Rattle.tib_texts.proofs.NarrowBest.{some_weaker}
use Rattle.tib_texts.proofs.kbest.found_best.Goals as goal

pub narrow_best-requires-clause-printable : goal.narrow_best-requires-clause-printable
narrow_best-requires-clause-printable g c = c.in-Ok.ensures.printable c.args.labels.now c.requires.printable

pub returns-in-Ok-narrow_best-clause-best : goal.returns-in-Ok-narrow_best-clause-best
returns-in-Ok-narrow_best-clause-best g c =
    some_weaker c.in-Ok-narrow_best.found _ _ (λ xs b. best_of_form g.S.Semiring.product c.args.grammar.now.rules c.in-Ok.costed.0.rules c.in-Ok.ensures.series c.args.labels.now c.args.k xs b) c.in-Ok-narrow_best.ensures.best

pub returns-in-Ok-narrow_best-clause-labels : goal.returns-in-Ok-narrow_best-clause-labels
returns-in-Ok-narrow_best-clause-labels g c =
    let labelled : AreLabelled (length c.args.labels.now) c.in-Ok.costed.0.rules =
    c.printable_is_labelled.ensures g.S.Semiring.SCALE c.args.labels.now c.in-Ok.costed.0.rules (c.in-Ok.ensures.printable c.args.labels.now c.requires.printable) in
    some_weaker c.in-Ok-narrow_best.found _ _ (λ xs b. labels_of_best g.S.Semiring.product c.in-Ok.costed.0.rules c.args.labels.now labelled c.args.k xs b) c.in-Ok-narrow_best.ensures.best
