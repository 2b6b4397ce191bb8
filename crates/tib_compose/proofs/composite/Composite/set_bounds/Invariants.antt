use Rattle.std.proofs.Common.{length}
use Rattle.tib_compose.specs.Bounding.{KeepsSource}
use Rattle.tib_compose.proofs.composite.Composite.set_bounds.Given as goal

abbrev pub invariant-loop-node : goal.invariant-loop-node
invariant-loop-node g l = KeepsSource g.S.Semiring.product l.self.second.now.rules l.fn.source l.source

abbrev pub decreases-loop-node : goal.decreases-loop-node
decreases-loop-node g l = length l.asked.items
