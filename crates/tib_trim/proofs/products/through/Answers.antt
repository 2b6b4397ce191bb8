use Rattle.std.proofs.Common.{ap, sym, subst, ◌∙◌, length}
use Rattle.std.specs.Prelude.{None, Some}
use Rattle.std.proofs.lemmas.List.{get_or_read}
use Rattle.tib_cost.specs.Least.{times}
use Rattle.tib_grammar.specs.Range.{AllBelow}
use Rattle.tib_grammar.proofs.Holes.{holes_of_items}
use Rattle.tib_inside.specs.Inside.{total}
use Rattle.tib_inside.specs.Settling.{costs_in}
use Rattle.tib_trim.proofs.products.through.Goals as goal

pub product_of-states-requires : goal.product_of-states-requires
product_of-states-requires g c = subst (AllBelow (length c.args.insides.now)) (holes_of_items c.items.result.now c.args.rule.now.right c.items.ensures.items) c.requires.states

pub returns : goal.returns
returns g c =
    c.times.ensures
    ∙ ap (λ v. times g.S.Semiring.product v c.times-inner.result) (get_or_read c.args.outsides.now c.args.rule.now.left c.index-outsides-rule.result c.requires.left c.index-outsides-rule.is None)
    ∙ ap (times g.S.Semiring.product (costs_in c.args.outsides.now c.args.rule.now.left))
    (c.times-inner.ensures
    ∙ ap (times g.S.Semiring.product (Some c.args.rule.now.cost))
    (c.product_of-states.ensures ∙ ap (total g.S.Semiring.product (costs_in c.args.insides.now)) (sym (holes_of_items c.items.result.now c.args.rule.now.right c.items.ensures.items))))
