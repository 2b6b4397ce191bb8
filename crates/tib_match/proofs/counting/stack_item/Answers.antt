use Rattle.std.proofs.Common.{◌∷◌, ◌∙◌, ◌-◌, ◌+◌, length, ap, drop, subst, sym}
use Rattle.std.proofs.lemmas.Result.{IfOk-weaker}
use Rattle.tib_grammar.specs.Items.{pair_of, pairs_of}
use Rattle.tib_match.specs.Counting.{AreCounted}
use Rattle.tib_match.proofs.CountedLists.{chain_stacked, one_stacked}
use Rattle.tib_match.proofs.StackedItems.{hole_longer}
use Rattle.tib_match.proofs.counting.stack_item.Goals as goal

pub returns-in_ok-stack_label-in-Label-clause-columns : goal.returns-in_ok-stack_label-in-Label-clause-columns
returns-in_ok-stack_label-in-Label-clause-columns g c = λ are.
    let product = g.S.Semiring.product in
    let xs = pairs_of c.args.others.now in
    let hs = drop c.args.holes c.args.costs.now in
    subst (λ i. AreCounted product c.args.normal.now.rules (pair_of i ∷ xs) hs c.stack_label.new.columns.items) (sym c.in-Label.is)
    (chain_stacked g.met.S.Semiring.laws c.args.normal.now.rules c.grammar.ensures.normal.normal c.in-Label.label c.in-Label.rank xs hs c.leading_holes-front.result c.args.columns.now.items c.stack_label.new.columns.items
    c.leading_holes-front.ensures.few c.leading_holes-front.ensures.holes c.in_ok-stack_label-in-Label.ensures.stacked are)

pub returns-in-Hole-clause-columns : goal.returns-in-Hole-clause-columns
returns-in-Hole-clause-columns g c =
    IfOk-weaker c.stack_hole.result _ _
    (λ left s are. subst (λ i. AreCounted g.S.Semiring.product c.args.normal.now.rules (pair_of i ∷ pairs_of c.args.others.now) (drop left c.args.costs.now) c.stack_hole.new.columns.items) (sym c.in-Hole.is)
    (one_stacked g.met.S.Semiring.laws c.args.normal.now.rules c.in-Hole.field-0 (pairs_of c.args.others.now) c.args.costs.now c.args.holes left c.args.columns.now.items c.stack_hole.new.columns.items s are))
    c.stack_hole.ensures

pub returns-in_ok-stack_label-in-Label-clause-many : goal.returns-in_ok-stack_label-in-Label-clause-many
returns-in_ok-stack_label-in-Label-clause-many g c = c.in_ok-stack_label-in-Label.ensures.many ∙ ap (λ i. length c.args.columns.now.items - (pair_of i).1 + 1) (sym c.in-Label.is)

pub returns-in-Hole-clause-many : goal.returns-in-Hole-clause-many
returns-in-Hole-clause-many g c =
    IfOk-weaker c.stack_hole.result _ _
    (λ left s. hole_longer c.args.columns.now.items c.stack_hole.new.columns.items s.column c.args.item.now c.in-Hole.field-0 c.in-Hole.is s.after)
    c.stack_hole.ensures
