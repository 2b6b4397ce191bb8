use Rattle.std.specs.Prelude.{ℕ, Option}
use Rattle.std.proofs.Common.{arith, subst}
use Rattle.tib_grammar.specs.Series.{IsSeries}
use Rattle.tib_k_best.proofs.Weighing.{costs_more, has_cost}
use Rattle.tib_k_best.proofs.weights.weights_of.Goals as goal

pub unreachable-requires : goal.unreachable-requires
unreachable-requires g c =
    has_cost g.S.Semiring.product c.args.normal.now.rules c.args.list.now c.loop-i.i (omega (arith, c.loop-i-test.true, c.len-i-end.ensures)) c.requires c.in_ok-tree.tree (c.in_ok-tree.ensures)
    c.in_ok-cost.field-0 (c.in_ok-cost.ensures) c.in_default.is

pub loop-i-preserved : goal.loop-i-preserved
loop-i-preserved g c =
    costs_more g.S.Semiring.product c.args.normal.now.rules c.args.list.now c.loop-i.i c.loop-i.weights.items c.loop-i.invariant c.in_ok-tree.tree c.in_ok-tree.ensures c.in-Some.cost
    (subst (λ (v : Option ℕ). IsSeries g.S.Semiring.product c.args.normal.now.rules c.in_ok-tree.tree v) c.in-Some.is c.in_ok-cost.ensures) c.push.new.self.items c.in_ok-push.ensures.items
