use Rattle.std.proofs.Common.{arith, refl, ◌∙◌, subst, sym, length, get_or, ◌∷◌, []}
use Rattle.tib_grammar.specs.Items.{holes_in}
use Rattle.tib_grammar.specs.Range.{AllBelow}
use Rattle.tib_grammar.specs.declared.Item.TheVariants.{Label}
use Rattle.tib_inside.proofs.Totals.{items_below, below_from}
use Rattle.tib_inside.proofs.Following.{marks_item}
use Rattle.tib_inside.proofs.reaching.mark_items.Goals as goal

pub mark_item-requires : goal.mark_item-requires
mark_item-requires c =
    subst (λ n. AllBelow n (holes_in (get_or c.args.items.now c.loop-item.item-index (Label 0 0) ∷ []))) (sym c.loop-item.invariant.long)
    (items_below (length c.args.kept.now.items) c.args.items.now c.loop-item.item-index (get_or c.args.items.now c.loop-item.item-index (Label 0 0)) (omega arith) refl (below_from (length c.args.kept.now.items) c.args.items.now c.loop-item.item-index c.requires))

pub loop-item-preserved : goal.loop-item-preserved
loop-item-preserved c = record {
  long = c.mark_item.ensures.long ∙ c.loop-item.invariant.long;
  marks = marks_item c.args.items.now c.loop-item.item-index c.args.kept.now.items c.loop-item.kept.items c.mark_item.new.kept.items c.args.stack.now.items c.loop-item.stack.items c.mark_item.new.stack.items (omega arith) c.loop-item.invariant.marks c.in_ok-mark_item.ensures.marks;
}
