use Rattle.std.proofs.Common.{◌≡◌, ap, sym, ◌∙◌, subst, length}
use Rattle.tib_tree.specs.Trees.{preorder_of}
use Rattle.tib_grammar.specs.Items.{pairs_of}
use Rattle.tib_grammar.specs.Range.{AllBelow}
use Rattle.tib_grammar.specs.Renaming.{number_in}
use Rattle.tib_grammar.specs.Sides.{side_map}
use Rattle.tib_grammar.proofs.Holes.{holes_of_items}
use Rattle.tib_grammar.proofs.Renamed.{side_from, still_preorder}
use Rattle.tib_grammar.proofs.renaming.Side+u32.rename.Goals as goal

pub rename_items-requires : goal.rename_items-requires
rename_items-requires c =
    let is : pairs_of c.as_mut_slice.result.now ≡ preorder_of c.args.self.now = ap pairs_of c.as_mut_slice.ensures.value ∙ sym c.self.invariant ∙ ap preorder_of c.self.view_is in
    subst (AllBelow (length c.args.numbers.now)) (holes_of_items c.as_mut_slice.result.now c.args.self.now is) c.requires

pub invariant_of-self : goal.invariant_of-self
invariant_of-self c =
    let is : pairs_of c.as_mut_slice.result.now ≡ preorder_of c.args.self.now = ap pairs_of c.as_mut_slice.ensures.value ∙ sym c.self.invariant ∙ ap preorder_of c.self.view_is in
    let e = still_preorder (number_in c.args.numbers.now) c.args.self.now c.as_mut_slice.result.now c.self.inside.items.items c.rename_items.new.items is c.as_mut_slice.ensures.value c.rename_items.ensures in
    ap preorder_of (side_from _ (side_map (number_in c.args.numbers.now) c.args.self.now) e) ∙ sym e

pub returns : goal.returns
returns c =
    let is : pairs_of c.as_mut_slice.result.now ≡ preorder_of c.args.self.now = ap pairs_of c.as_mut_slice.ensures.value ∙ sym c.self.invariant ∙ ap preorder_of c.self.view_is in
    side_from _ (side_map (number_in c.args.numbers.now) c.args.self.now)
    (still_preorder (number_in c.args.numbers.now) c.args.self.now c.as_mut_slice.result.now c.self.inside.items.items c.rename_items.new.items is c.as_mut_slice.ensures.value c.rename_items.ensures)
