use Rattle.std.proofs.Common.{◌≡◌, ◌+◌, arith, subst, sym}
use Rattle.tib_compose.specs.Ends.{IsSkipped}
use Rattle.tib_compose.proofs.Skipping.{none_skipped, one_skipped, nothing_skipped}
use Rattle.tib_compose.proofs.ends.skip.Goals.{then-at-ends, else-at-ends}
use Rattle.tib_compose.proofs.ends.skip.Goals as goal

pub loop-init : goal.loop-init
loop-init c = λ pairs long known. none_skipped pairs c.args.ends.now c.args.from

pub loop-preserved : goal.loop-preserved
loop-preserved c = λ pairs long known.
    elim c.if-at-ends.branch [
      | then-at-ends w ↦ subst (IsSkipped pairs c.args.from (c.loop.counter + 1)) (sym w.at-is) (one_skipped pairs c.args.ends.now c.args.from c.loop.counter c.loop.at known (c.loop.invariant pairs long known) (omega (arith, w.if-at-ends, long)))
      | else-at-ends w ↦ subst (IsSkipped pairs c.args.from (c.loop.counter + 1)) (sym w.at-is) (nothing_skipped pairs c.args.ends.now c.args.from c.loop.counter c.loop.at (c.loop.invariant pairs long known) (omega (arith, w.if-at-ends, long)))
    ]

pub returns : goal.returns
returns c = λ pairs long known.
    let all : c.loop.counter ≡ c.args.many = omega (arith, c.loop-test.false, c.loop.auto.counter-end) in
    subst (λ n. IsSkipped pairs c.args.from n c.loop.at) all (c.loop.invariant pairs long known)
