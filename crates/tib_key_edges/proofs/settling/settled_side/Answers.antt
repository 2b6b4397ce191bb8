use Rattle.std.proofs.Common.{◌<◌, arith, ap, sym, ◌∙◌, subst, length}
use Rattle.std.specs.Prelude.{slice_index}
use Rattle.tib_grammar.specs.Sides.{side_map}
use Rattle.tib_grammar.proofs.Holes.{holes_of_items}
use Rattle.tib_key_edges.specs.Settling.{settled_pairs}
use Rattle.tib_key_edges.specs.SideRules.{numbered_side}
use Rattle.tib_key_edges.proofs.Settled.{settles, side_settled, no_fault}
use Rattle.tib_key_edges.proofs.settling.settled_side.Goals as goal

pub settled_items-requires : goal.settled_items-requires
settled_items-requires g c = record {
  room = λ h.
      let same = holes_of_items c.items.result.now c.args.side.now c.items.ensures.items in
      let some : 0 < length _ = subst (λ (xs : _). 0 < length xs) (sym same) h in
      omega (arith, c.requires.room some, ap length same);
}

pub unreachable-requires : goal.unreachable-requires
unreachable-requires g c =
    no_fault c.from_preorder.result _ c.in-Err.field-0 c.in-Err.is c.from_preorder.ensures.not_a_tree c.from_preorder.ensures.no_memory (side_map (slice_index c.args.ends.now) (numbered_side c.args.first c.args.side.now))
    (settles c.args.ends.now c.args.first c.args.side.now c.items.ensures.leaves ∙ sym (ap (settled_pairs c.args.ends.now c.args.first) c.items.ensures.items) ∙ sym c.in_ok-items.ensures.settled)

pub returns : goal.returns
returns g c =
    side_settled c.args.ends.now c.args.first c.args.side.now c.items.result.now c.in_ok-items.items.items c.in-Ok.settled c.items.ensures.leaves c.items.ensures.items c.in_ok-items.ensures.settled c.in-Ok.ensures.side
