use Rattle.std.proofs.Common.{ap, sym, subst, arith, length, get_or, true≢false}
use Rattle.std.proofs.lemmas.List.{take_rest}
use Rattle.tib_grammar.specs.Items.{IsHole}
use Rattle.tib_grammar.specs.declared.Item.TheVariants.{Label}
use Rattle.tib_grammar.proofs.Holes.{IsNormalSide-from, IsHole-below}
use Rattle.tib_grammar.proofs.determinism.is_normal_rule.Goals as goal

pub returns-then-not-is_hole-clause-no : goal.returns-then-not-is_hole-clause-no
returns-then-not-is_hole-clause-no c = λ _ n.
    let rest = take_rest c.items-items.result.now 1 in
    let hole = IsHole-below c.items-items.result.now c.args.rule.now.right c.items-items.ensures.items n c.loop-item.item-index
    (omega (arith, ap length rest, c.loop-item-test.true))
    in
    true≢false (sym (c.if-not-is_hole.ensures.1 (subst (λ zs. IsHole (get_or zs c.loop-item.item-index (Label 0 0))) (sym rest) hole)))

pub returns-clause-yes : goal.returns-clause-yes
returns-clause-yes c = λ _.
    let rest = take_rest c.items-items.result.now 1 in
    IsNormalSide-from c.items-items.result.now c.args.rule.now.right c.items-items.ensures.items
    (λ h. true≢false (sym (c.if-is_hole.ensures.1 h)))
    (λ k b. subst (λ zs. IsHole (get_or zs k (Label 0 0))) rest (c.loop-item.invariant k (omega (arith, ap length rest, c.loop-item-test.false))))
