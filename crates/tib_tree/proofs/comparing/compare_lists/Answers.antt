use Rattle.std.proofs.Common.{◌≤◌, ◌⊎◌, length, inl, inr, ◌∙◌}
use Rattle.tib_tree.proofs.ByNodes.{ends}
use Rattle.tib_tree.proofs.comparing.compare_lists.Goals as goal
use Rattle.tib_tree.proofs.comparing.compare_lists.Goals.{then-loop-i-test+else-i-ys, else-loop-i-test}

pub returns : goal.returns
returns c =
    let over : (length c.args.xs.now ≤ c.loop-i.i) ⊎ (length c.args.ys.now ≤ c.loop-i.i) = elim c.loop-i-test.branch [
      | then-loop-i-test+else-i-ys w ↦ inr w.if-i-ys.false
      | else-loop-i-test w ↦ inl w.loop-i-test.false
    ] in
    c.cmp.ensures ∙ ends c.args.labels.now c.loop-i.i c.args.xs.now c.args.ys.now c.loop-i.invariant.0 c.loop-i.invariant.1 over c.loop-i.invariant.2
