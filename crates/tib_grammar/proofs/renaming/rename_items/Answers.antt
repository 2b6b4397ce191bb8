use Rattle.std.proofs.Common.{arith, ap, sym, ◌∙◌, ◌∷◌, [], subst, length, slice_index_or, slice_set}
use Rattle.std.proofs.lemmas.List.{get_or_default}
use Rattle.std.proofs.lemmas.List.Edits.{map_over_more}
use Rattle.tib_grammar.specs.Items.{holes_in}
use Rattle.tib_grammar.specs.Range.{AllBelow}
use Rattle.tib_grammar.specs.Renaming.{number_in, item_map}
use Rattle.tib_grammar.specs.declared.Item.TheVariants.{Label}
use Rattle.tib_grammar.proofs.Holes.{IsBelow-from}
use Rattle.tib_grammar.proofs.Renamed.{item_below, at-seam}
use Rattle.tib_grammar.proofs.renaming.rename_items.Goals as goal

pub rename_item-requires : goal.rename_item-requires
rename_item-requires c =
    let n = length c.args.numbers.now in
    subst (λ x. AllBelow n (holes_in (x ∷ [])))
    (sym (at-seam (item_map (number_in c.args.numbers.now)) c.args.items.now c.loop-item.items c.loop-item.item-index (Label 0 0) c.loop-item-test.true c.loop-item.invariant))
    (item_below n _ (IsBelow-from n c.args.items.now c.requires c.loop-item.item-index c.loop-item-test.true))

pub loop-item-preserved : goal.loop-item-preserved
loop-item-preserved c =
    let x = slice_index_or c.loop-item.items c.loop-item.item-index (Label 0 0) in
    ap (slice_set c.loop-item.items c.loop-item.item-index) c.rename_item.ensures
    ∙ map_over_more (item_map (number_in c.args.numbers.now)) c.args.items.now c.loop-item.items c.loop-item.item-index x c.loop-item-test.true c.loop-item.invariant
    (get_or_default c.loop-item.items c.loop-item.item-index (Label 0 0) x (omega (arith, c.loop-item.auto.items, c.loop-item-test.true)))
