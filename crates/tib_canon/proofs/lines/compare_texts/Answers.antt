use Rattle.std.proofs.Common.{◌≤◌, ◌⊎◌, length, inl, inr, ◌∙◌}
use Rattle.tib_canon.proofs.ByBytes.{ends}
use Rattle.tib_canon.proofs.lines.compare_texts.Goals as goal
use Rattle.tib_canon.proofs.lines.compare_texts.Goals.{then-loop-place-test+else-place-two, else-loop-place-test}

pub returns : goal.returns
returns c =
    let over : (length c.args.one.now ≤ c.loop-place.place) ⊎ (length c.args.two.now ≤ c.loop-place.place) = elim c.loop-place-test.branch [
      | then-loop-place-test+else-place-two w ↦ inr w.if-place-two.false
      | else-loop-place-test w ↦ inl w.loop-place-test.false
    ] in
    c.cmp.ensures ∙ ends c.loop-place.place c.args.one.now c.args.two.now c.loop-place.invariant.0 c.loop-place.invariant.1 over c.loop-place.invariant.2
