use Rattle.std.proofs.Common.{◌≡◌, ◌<◌, ◌+◌, ◌-◌, ℕ, arith, subst, sym, ap, ◌∙◌, length}
use Rattle.std.proofs.lemmas.List.{length-map, length-set}
use Rattle.tib_grammar.specs.Items.{pairs_of, pair_of}
use Rattle.tib_grammar.specs.Sides.{label}
use Rattle.tib_compose.specs.Ends.{AreEnds, IsSkipped}
use Rattle.tib_compose.proofs.Skipping.{end_known, rank_there}
use Rattle.tib_compose.proofs.ends.ends_of.Goals as goal

pub loop-i-init : goal.loop-i-init
loop-i-init c = record {
  long = omega (arith, c.in_ok-ends.ensures.len, c.in_ok-ends.ends.ok.0);
  within = omega arith;
  known = λ j from below. absurd (omega (arith, from, below, length-map c.args.items.now pair_of));
}

pub loop-i-preserved : goal.loop-i-preserved
loop-i-preserved c =
    let i : ℕ = c.loop-i.i - 1 in
    let next : i + 1 ≡ c.loop-i.i = omega (arith, c.loop-i-test.true) in
    let low : i < length c.args.items.now = omega (arith, c.loop-i-test.true, c.loop-i.invariant.within) in
    let many : length (pairs_of c.args.items.now) ≡ length c.args.items.now = length-map c.args.items.now pair_of in
    let known : AreEnds (pairs_of c.args.items.now) c.loop-i.ends.items (i + 1) = subst (AreEnds (pairs_of c.args.items.now) c.loop-i.ends.items) (sym next) c.loop-i.invariant.known in
    let skipped : IsSkipped (pairs_of c.args.items.now) (i + 1) c.rank_of.result c.skip-end.result =
    c.skip-end.ensures (pairs_of c.args.items.now) (omega (arith, many, c.loop-i.invariant.long, ap length c.deref.ensures.value))
    (subst (λ ends. AreEnds (pairs_of c.args.items.now) ends (i + 1)) (sym c.deref.ensures.value) known)
    in
    record {
      long = omega (arith, c.loop-i.invariant.long, length-set c.loop-i.ends.items i c.skip-end.result);
      within = omega (arith, c.loop-i.invariant.within);
      known = end_known (pairs_of c.args.items.now) c.loop-i.ends.items i c.rank_of.result c.skip-end.result (label 0, 0) (omega (arith, low, many)) (omega (arith, many, c.loop-i.invariant.long))
          (rank_there c.args.items.now i _ low ∙ sym c.rank_of.ensures) known skipped;
    }

pub returns : goal.returns
returns c =
    let done : c.loop-i.i ≡ 0 = omega (arith, c.loop-i-test.false) in
    record {
      long = c.loop-i.invariant.long;
      ends = subst (AreEnds (pairs_of c.args.items.now) c.loop-i.ends.items) done c.loop-i.invariant.known;
    }
