use Rattle.std.proofs.Common.{ℕ, List, arith, ap, sym, ◌∙◌, length, take, refl}
use Rattle.std.proofs.lemmas.List.{length-take, length-map, take_all}
use Rattle.tib_grammar.specs.Items.{pair_of, holes_in}
use Rattle.tib_grammar.specs.declared.Item.{Item}
use Rattle.tib_grammar.proofs.Holes.{holes_of_items}
use Rattle.tib_texts.proofs.PlacedAt.{holes_after, holes_few}
use Rattle.tib_texts.proofs.derived.count_states.Goals as goal

pub after_item-count-requires : goal.after_item-count-requires
after_item-count-requires c =
    omega (arith, c.loop-item.invariant, holes_few (take c.loop-item.item-index c.items-items.result.now), length-take c.loop-item.item-index c.items-items.result.now, c.loop-item-test.true, ap length c.items-items.ensures.items, length-map c.items-items.result.now pair_of, c.requires)

pub loop-item-preserved : goal.loop-item-preserved
loop-item-preserved c = holes_after c.items-items.result.now c.loop-item.item-index c.loop-item.count c.after_item-count.result _ c.loop-item-test.true c.loop-item.invariant refl c.after_item-count.ensures

pub returns : goal.returns
returns c =
    c.loop-item.invariant
    ∙ ap (λ (xs : List (Item ℕ)). length (holes_in xs)) (take_all c.loop-item.item-index c.items-items.result.now c.loop-item-test.false)
    ∙ ap length (sym (holes_of_items c.items-items.result.now c.args.side.now c.items-items.ensures.items))
