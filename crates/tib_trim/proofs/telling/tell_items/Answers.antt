use Rattle.std.proofs.Common.{arith, ap, sym, ◌∙◌, ◌+◌, drop, length, get_or, refl}
use Rattle.tib_grammar.specs.Items.{holes_in}
use Rattle.tib_grammar.specs.declared.Item.TheVariants.{Label}
use Rattle.tib_inside.specs.Settling.{costs_in}
use Rattle.tib_inside.proofs.Totals.{items_below, below_from, holes_rest}
use Rattle.tib_prune.specs.Telling.{rests_of}
use Rattle.tib_trim.proofs.ToldItems.{items_more, items_end}
use Rattle.tib_trim.proofs.telling.tell_items.Goals as goal

pub loop-item-init : goal.loop-item-init
loop-item-init g c = record { rests = c.requires.rests; tells = λ final h. h }

pub tell_item-requires-clause-insides : goal.tell_item-requires-clause-insides
tell_item-requires-clause-insides g c =
    items_below (length c.args.insides.now) c.args.items.now c.loop-item.item-index (get_or c.args.items.now c.loop-item.item-index (Label 0 0)) (omega arith) refl (below_from (length c.args.insides.now) c.args.items.now c.loop-item.item-index c.requires.insides)

pub tell_item-requires-clause-outsides : goal.tell_item-requires-clause-outsides
tell_item-requires-clause-outsides g c =
    items_below (length c.args.outsides.now) c.args.items.now c.loop-item.item-index (get_or c.args.items.now c.loop-item.item-index (Label 0 0)) (omega arith) refl
    (below_from (length c.args.outsides.now) c.args.items.now c.loop-item.item-index c.requires.outsides)

pub tell_item-requires-clause-rests : goal.tell_item-requires-clause-rests
tell_item-requires-clause-rests g c = (
  holes_in (drop (c.loop-item.item-index + 1) c.args.items.now),
  c.loop-item.invariant.rests ∙ ap (rests_of g.S.Semiring.product (costs_in c.args.insides.now)) (holes_rest c.args.items.now c.loop-item.item-index (get_or c.args.items.now c.loop-item.item-index (Label 0 0)) (omega arith) refl),
)

pub loop-item-preserved : goal.loop-item-preserved
loop-item-preserved g c =
    let states = holes_rest c.args.items.now c.loop-item.item-index (get_or c.args.items.now c.loop-item.item-index (Label 0 0)) (omega arith) refl in
    let on = c.in_ok-front.ensures (holes_in (drop (c.loop-item.item-index + 1) c.args.items.now)) (c.loop-item.invariant.rests ∙ ap (rests_of g.S.Semiring.product (costs_in c.args.insides.now)) states) in
    record {
      rests = on.left;
      tells = λ final h. c.loop-item.invariant.tells final
          (items_more g.S.Semiring.product (costs_in c.args.insides.now) (costs_in c.args.outsides.now) c.loop-item.front (holes_in (drop c.loop-item.item-index c.args.items.now)) _ c.loop-item.agenda final (sym states) (on.tells final h));
    }

pub returns : goal.returns
returns g c =
    c.loop-item.invariant.tells c.loop-item.agenda
    (items_end g.S.Semiring.product (costs_in c.args.insides.now) (costs_in c.args.outsides.now) c.loop-item.front c.args.items.now c.loop-item.item-index c.loop-item.agenda (omega arith))
