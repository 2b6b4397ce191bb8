use Rattle.std.proofs.Common.{◌≡◌, ◌+◌, ◌-◌, ◌<◌, ℕ, arith, length, subst}
use Rattle.tib_grammar.specs.declared.Item.TheVariants.{Label}
use Rattle.tib_compose.specs.FlatSides.{ArePairsFrom}
use Rattle.tib_compose.proofs.FlatEdges.{no_pairs, one_pair, from_first}
use Rattle.tib_compose.proofs.flat.are_pairs.Goals as goal

pub loop-i-init : goal.loop-i-init
loop-i-init c = record { within = omega arith; pairs = no_pairs c.args.items.now }

pub loop-i-preserved : goal.loop-i-preserved
loop-i-preserved c =
    let i : ℕ = c.loop-i.i - 1 in
    let next : c.loop-i.i ≡ i + 1 = omega (arith, c.loop-i-test.true) in
    let low : i < length c.args.items.now = omega (arith, c.loop-i-test.true, c.loop-i.invariant.within) in
    record {
      within = omega (arith, c.loop-i.invariant.within);
      pairs = one_pair c.args.items.now i c.in-Hole.field-0 (Label 0 0) low c.in-Hole.is (subst (λ k. ArePairsFrom k c.args.items.now) next c.loop-i.invariant.pairs);
    }

pub returns : goal.returns
returns c = λ _. from_first c.args.items.now c.loop-i.i (omega (arith, c.loop-i-test.false)) c.loop-i.invariant.pairs
