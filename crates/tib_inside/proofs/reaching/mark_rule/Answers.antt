use Rattle.std.proofs.Common.{subst, sym, length, ◌≡◌}
use Rattle.std.specs.Prelude.{true}
use Rattle.tib_lex.specs.Lists.{Has}
use Rattle.tib_grammar.specs.Items.{holes_in}
use Rattle.tib_grammar.specs.Sides.{holes_of}
use Rattle.tib_grammar.specs.Range.{AllBelow}
use Rattle.tib_grammar.proofs.Holes.{holes_of_items}
use Rattle.tib_inside.proofs.Following.{marks_same}
use Rattle.tib_inside.proofs.reaching.mark_rule.Goals as goal

pub mark_items-requires : goal.mark_items-requires
mark_items-requires c = subst (AllBelow (length c.args.kept.now.items)) (holes_of_items c.items.result.now c.args.rule.now.right c.items.ensures.items) c.requires

pub returns-clause-marks : goal.returns-clause-marks
returns-clause-marks c =
    let same = holes_of_items c.items.result.now c.args.rule.now.right c.items.ensures.items in
    marks_same (Has (holes_in c.items.result.now)) (λ q. (c.args.is_live ≡ true) × Has (holes_of c.args.rule.now.right) q) c.args.kept.now.items c.mark_items.new.kept.items c.args.stack.now.items c.mark_items.new.stack.items
    (λ q k. (c.if-not-is_live.false, subst (λ qs. Has qs q) (sym same) k)) (λ q k. subst (λ qs. Has qs q) same k.1) c.in_ok-mark_items.ensures.marks
