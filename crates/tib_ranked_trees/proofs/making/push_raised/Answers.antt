use Rattle.std.proofs.Common.{arith, inl, inr, ◌∙◌}
use Rattle.tib_ranked_trees.proofs.Made.{raised_next, raised_all}
use Rattle.tib_ranked_trees.proofs.making.push_raised.Goals as goal
use Rattle.tib_ranked_trees.proofs.making.push_raised.Goals.{then-j-i, else-j-i}

pub loop-j-preserved : goal.loop-j-preserved
loop-j-preserved c =
    c.in_ok-push.ensures.items
    ∙ raised_next c.args.ranks.now.items c.loop-j.ranks.items c.args.start c.args.count c.args.i c.loop-j.j c.index-rank.result.now c.if-j-i.push c.requires.within (omega arith) c.loop-j.invariant c.index-rank.ensures
    (elim c.if-j-i.branch [ then-j-i w ↦ inl (w.if-j-i.true, w.push-is) | else-j-i w ↦ inr (w.if-j-i.false, w.push-is) ])

pub returns : goal.returns
returns c = raised_all c.args.ranks.now.items c.loop-j.ranks.items c.args.start c.args.count c.args.i c.loop-j.j c.requires.within (omega arith) c.loop-j.invariant
