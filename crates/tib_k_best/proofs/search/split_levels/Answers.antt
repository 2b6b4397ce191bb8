use Rattle.std.specs.Prelude.{◌+◌, ◌-◌, ◌/◌}
use Rattle.std.proofs.Common.{arith}
use Rattle.tib_k_best.proofs.Searching.{level_fault, search_at, search_down, search_up, search_whole}
use Rattle.tib_k_best.proofs.search.split_levels.Goals as goal

pub returns-in-Err-clause-cause : goal.returns-in-Err-clause-cause
returns-in-Err-clause-cause g c =
    level_fault g.S.Semiring.LEVELLED g.S.Semiring.product c.args.labels.now c.args.rules.now c.in-Ok.costs.items c.args.k (c.loop-low.low + (c.loop-low.high - c.loop-low.low) / 2) c.index-cost.result.now
    c.requires.levelled c.in-Ok.ensures (omega (arith, c.loop-low-test.true, c.loop-low.invariant.within)) c.index-cost.ensures c.in-Err.error c.in-Err.ensures.cause

pub loop-low-preserved-then-len-k : goal.loop-low-preserved-then-len-k
loop-low-preserved-then-len-k g c =
    search_up g.met.S.Semiring.laws c.requires.levelled c.args.labels.now c.args.rules.now c.requires.normal c.args.k c.requires.some c.in-Ok.costs.items c.in-Ok.ensures c.loop-low.low c.loop-low.high
    (c.loop-low.low + (c.loop-low.high - c.loop-low.low) / 2) c.index-cost.result.now c.loop-low.below c.loop-low.at c.in-Ok-best_of_level.list c.loop-low.invariant (omega (arith, c.loop-low-test.true))
    c.index-cost.ensures c.in-Ok-best_of_level.ensures.best c.in-Ok-best_of_level.ensures.within (omega (arith, c.if-len-k.true, c.len.ensures))

pub loop-low-preserved : goal.loop-low-preserved
loop-low-preserved g c =
    search_down g.met.S.Semiring.laws c.requires.levelled c.args.labels.now c.args.rules.now c.requires.normal c.args.k c.requires.some c.in-Ok.costs.items c.in-Ok.ensures c.loop-low.low c.loop-low.high
    (c.loop-low.low + (c.loop-low.high - c.loop-low.low) / 2) c.index-cost.result.now c.loop-low.below c.loop-low.at c.in-Ok-best_of_level.list c.loop-low.invariant (omega arith)
    (omega (arith, c.loop-low-test.true)) c.index-cost.ensures c.in-Ok-best_of_level.ensures.best c.in-Ok-best_of_level.ensures.within (λ h. omega (arith, h, c.if-len-k.false, c.len.ensures))

pub returns-then-high-len-clause-split : goal.returns-then-high-len-clause-split
returns-then-high-len-clause-split g c =
    search_at g.met.S.Semiring.laws c.requires.levelled c.args.labels.now c.args.rules.now c.requires.normal c.args.k c.requires.some c.in-Ok.costs.items c.in-Ok.ensures c.loop-low.low c.loop-low.high
    c.index-cost-then-high-len.result.now c.loop-low.below c.loop-low.at (omega (arith, c.loop-low-test.false)) (omega (arith, c.if-high-len.true, c.len-2.ensures, c.in-Ok.costs.ok.0))
    c.index-cost-then-high-len.ensures c.loop-low.invariant

pub returns-clause-split : goal.returns-clause-split
returns-clause-split g c =
    search_whole g.met.S.Semiring.laws c.requires.levelled c.args.labels.now c.args.rules.now c.requires.normal c.args.k c.requires.some c.in-Ok.costs.items c.in-Ok.ensures c.loop-low.low c.loop-low.high
    c.one-cost.result c.loop-low.below c.loop-low.at (omega (arith, c.loop-low-test.false)) (λ h. omega (arith, h, c.if-high-len.false, c.len-2.ensures, c.in-Ok.costs.ok.0)) c.loop-low.invariant
