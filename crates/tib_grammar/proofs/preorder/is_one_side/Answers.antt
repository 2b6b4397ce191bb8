use Rattle.std.proofs.Common.{arith, ◌-◌}
use Rattle.tib_tree.proofs.Preorders.{step, stop}
use Rattle.tib_grammar.specs.Sides.{label}
use Rattle.tib_grammar.specs.Items.{pairs_of}
use Rattle.tib_grammar.proofs.ItemsAt.{rank_at, length-pairs}
use Rattle.tib_grammar.proofs.preorder.is_one_side.Goals as goal

pub returns-then-rank-roots-clause-no : goal.returns-then-rank-roots-clause-no
returns-then-rank-roots-clause-no g c =
    let rank = rank_at c.args.items.now (c.loop-i.i - 1) c.index-items-i.result (omega arith) c.index-items-i.is in
    let long = length-pairs c.args.items.now in
    λ _. stop (label 0, 0) (pairs_of c.args.items.now) c.loop-i.i c.loop-i-test.true (omega arith) (omega (arith, rank, c.rank_of-rank.ensures))

pub loop-i-preserved : goal.loop-i-preserved
loop-i-preserved g c =
    let i = c.loop-i.invariant in
    let rank = rank_at c.args.items.now (c.loop-i.i - 1) c.index-items-i.result (omega arith) c.index-items-i.is in
    let long = length-pairs c.args.items.now in
    let s = step (label 0, 0) (pairs_of c.args.items.now) c.loop-i.i c.loop-i-test.true (omega arith) i.nested (omega (arith, rank, c.rank_of-rank.ensures)) in
    record { within = omega arith; nested = s.0; roots = omega (arith, s.1, i.roots, rank, c.rank_of-rank.ensures); few = omega (arith, i.few) }
