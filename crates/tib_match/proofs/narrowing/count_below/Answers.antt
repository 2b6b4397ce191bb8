use Rattle.std.proofs.Common.{arith, ℕ, ◌+◌, ◌-◌, ◌/◌, ◌<◌, ◌≤◌, get_or, length, ap, sym, subst, ◌∙◌}
use Rattle.std.proofs.lemmas.List.{get_or_read}
use Rattle.tib_grammar.specs.Run.{rule_at, no_rule}
use Rattle.tib_match.proofs.NarrowedLists.{all_up_to, all_from, below_at}
use Rattle.tib_match.proofs.narrowing.count_below.Goals as goal

pub loop-low-preserved-then-rules-position : goal.loop-low-preserved-then-rules-position
loop-low-preserved-then-rules-position c =
    let middle : ℕ = c.loop-low.low + (c.loop-low.high - c.loop-low.low) / 2 in
    let room = c.loop-low-test.true in
    let high = c.loop-low.invariant.1 in
    let inside : middle < length c.args.positions.now = omega arith in
    let here = get_or_read c.args.rules.now (get_or c.args.positions.now middle 0) c.index-rules-position.result (below_at (length c.args.rules.now) c.args.positions.now middle c.requires.below inside) c.index-rules-position.is no_rule in
    (omega arith, high, all_up_to c.args.rules.now c.args.positions.now c.requires.ascend c.args.state middle inside (subst (λ r. r.left < c.args.state) (sym c.index-rules-position.is ∙ here) c.if-rules-position.true), c.loop-low.invariant.3)

pub loop-low-preserved : goal.loop-low-preserved
loop-low-preserved c =
    let middle : ℕ = c.loop-low.low + (c.loop-low.high - c.loop-low.low) / 2 in
    let room = c.loop-low-test.true in
    let high = c.loop-low.invariant.1 in
    let inside : middle < length c.args.positions.now = omega arith in
    let here = get_or_read c.args.rules.now (get_or c.args.positions.now middle 0) c.index-rules-position.result (below_at (length c.args.rules.now) c.args.positions.now middle c.requires.below inside) c.index-rules-position.is no_rule in
    let no_less = c.if-rules-position.false in
    let same = ap (λ r. r.left) (sym c.index-rules-position.is ∙ here) in
    let least : c.args.state ≤ (rule_at c.args.rules.now (get_or c.args.positions.now middle 0)).left = omega arith in
    (omega arith, omega arith, c.loop-low.invariant.2, all_from c.args.rules.now c.args.positions.now c.requires.ascend c.args.state middle inside least)
