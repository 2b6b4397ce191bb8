use Rattle.std.proofs.Common.{◌∷◌, drop, subst, sym}
use Rattle.std.proofs.lemmas.Result.{IfOk-weaker}
use Rattle.tib_grammar.specs.Items.{pair_of}
use Rattle.tib_match.specs.Boxes.{all_spanned, AreColumns}
use Rattle.tib_match.proofs.BoxSteps.{label_stacked, hole_stacked}
use Rattle.tib_match.proofs.box_cost.stack_item.Goals as goal

pub returns-in_ok-stack_label-in-Label-clause-columns : goal.returns-in_ok-stack_label-in-Label-clause-columns
returns-in_ok-stack_label-in-Label-clause-columns g c = λ xs are.
    let product = g.S.Semiring.product in
    let fs = all_spanned (drop c.args.holes c.args.spans.now) (drop c.args.holes c.args.costs.now) in
    subst (λ i. AreColumns product c.args.normal.now.rules (pair_of i ∷ xs) fs c.stack_label.new.columns.items) (sym c.in-Label.is)
    (label_stacked g.met.S.Semiring.laws c.args.normal.now.rules c.grammar.ensures.normal.normal c.in-Label.label c.in-Label.rank xs fs c.args.columns.now.items c.stack_label.new.columns.items c.in_ok-stack_label-in-Label.ensures are)

pub returns-in-Hole-clause-columns : goal.returns-in-Hole-clause-columns
returns-in-Hole-clause-columns g c =
    IfOk-weaker c.stack_hole.result _ _
    (λ left s xs are. subst (λ i. AreColumns g.S.Semiring.product c.args.normal.now.rules (pair_of i ∷ xs) (all_spanned (drop left c.args.spans.now) (drop left c.args.costs.now)) c.stack_hole.new.columns.items) (sym c.in-Hole.is)
    (hole_stacked g.met.S.Semiring.laws c.args.normal.now.rules c.in-Hole.field-0 xs c.args.spans.now c.args.costs.now c.args.holes left c.args.columns.now.items c.stack_hole.new.columns.items s are))
    c.stack_hole.ensures
