use Rattle.std.proofs.Common.{arith, ℕ, ◌+◌, ◌-◌, ◌/◌, ◌<◌, ◌≤◌, ap, get_or}
use Rattle.tib_weigh.specs.declared.vector.Entry.{Entry}
use Rattle.tib_weigh.proofs.EntryLemmas.{passed_at, rest_from}
use Rattle.tib_weigh.proofs.vector.place_of.Goals as goal

pub loop-low-preserved-then-vector-middle : goal.loop-low-preserved-then-vector-middle
loop-low-preserved-then-vector-middle c =
    let e = c.index-vector-middle.result in
    let m : ℕ = c.loop-low.low + (c.loop-low.high - c.loop-low.low) / 2 in
    let lt : (get_or c.args.vector.now m e).state < c.args.state = omega (arith, c.if-vector-middle.true, ap (λ (x : Entry). x.state) c.index-vector-middle.is) in
    record {
      ordered = omega arith;
      within = c.loop-low.invariant.within;
      passed = passed_at c.args.vector.now m c.args.state e c.requires (omega arith) lt;
      rest = c.loop-low.invariant.rest;
    }

pub loop-low-preserved : goal.loop-low-preserved
loop-low-preserved c =
    let e = c.index-vector-middle.result in
    let m : ℕ = c.loop-low.low + (c.loop-low.high - c.loop-low.low) / 2 in
    let le : c.args.state ≤ (get_or c.args.vector.now m e).state = omega (arith, c.if-vector-middle.false, ap (λ (x : Entry). x.state) c.index-vector-middle.is) in
    record {
      ordered = omega arith;
      within = omega arith;
      passed = c.loop-low.invariant.passed;
      rest = rest_from c.args.vector.now m c.args.state e c.requires (omega arith) le;
    }
