use Rattle.std.proofs.Common.{◌≡◌, ◌∷◌, [], ◌++◌, ℕ, map, arith, ap, sym, ◌∙◌}
use Rattle.std.specs.List.{range_with_len}
use Rattle.tib_tree.specs.Trees.{preorder_of}
use Rattle.tib_grammar.specs.Items.{pairs_of}
use Rattle.tib_grammar.specs.Sides.{over}
use Rattle.tib_grammar.specs.declared.Item.TheVariants.{Label, Hole}
use Rattle.tib_domain.specs.Reading.{plain}
use Rattle.tib_domain.proofs.Steps.{no_fault, side_is, plain_items, mapped_more, items_long}
use Rattle.tib_domain.proofs.any.plain_side.Goals as goal

pub loop-number-preserved : goal.loop-number-preserved
loop-number-preserved c =
    c.in_ok-push-2.ensures.items
    ∙ ap (λ ws. ws ++ Hole (plain c.loop-number.number) ∷ []) c.loop-number.invariant
    ∙ ap (λ ws. Label c.args.label c.args.rank ∷ ws) (sym (mapped_more (λ (i : ℕ). Hole (plain i)) c.loop-number.number))

pub from_preorder-requires : goal.from_preorder-requires
from_preorder-requires c =
    let many : c.loop-number.number ≡ c.args.rank = omega arith in
    let long = items_long c.args.label c.args.rank c.loop-number.number c.loop-number.items.items c.loop-number.invariant in (
      omega arith,
      omega (arith, long, many, c.requires),
    )

pub unreachable-requires : goal.unreachable-requires
unreachable-requires c =
    let many : c.loop-number.number ≡ c.args.rank = omega arith in
    no_fault c.from_preorder.result (λ s. preorder_of s ≡ pairs_of c.loop-number.items.items) c.in-Err.field-0 c.in-Err.is c.from_preorder.ensures.not_a_tree c.from_preorder.ensures.no_memory
    (over c.args.label (map plain (range_with_len 0 c.args.rank))) (sym (plain_items c.args.label c.args.rank c.loop-number.number c.loop-number.items.items many c.loop-number.invariant))

pub returns : goal.returns
returns c =
    let many : c.loop-number.number ≡ c.args.rank = omega arith in
    side_is c.in-Ok.side (over c.args.label (map plain (range_with_len 0 c.args.rank)))
    (c.in-Ok.ensures.side ∙ plain_items c.args.label c.args.rank c.loop-number.number c.loop-number.items.items many c.loop-number.invariant)
