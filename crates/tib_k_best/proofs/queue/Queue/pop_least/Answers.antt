use Rattle.std.specs.Prelude.{ℕ}
use Rattle.std.proofs.Common.{subst, sym}
use Rattle.tib_lex.specs.Lists.{Has}
use Rattle.tib_ranked_trees.specs.Heaps.{IsHeap}
use Rattle.tib_ranked_trees.specs.Held.{offers_cmp, stands_for, IsKnownBy}
use Rattle.tib_k_best.specs.QueueOf.{QueueOf}
use Rattle.tib_k_best.proofs.Starting.{heap_known, takes_least}
use Rattle.tib_k_best.proofs.queue.Queue.pop_least.Goals as goal

pub pop-requires-clause-known : goal.pop-requires-clause-known
pop-requires-clause-known g c =
    subst (λ (w : QueueOf). (m : ℕ) → Has w.heap m → IsKnownBy c.args.lists.now m) (sym c.self.view_is) (heap_known g.S.Semiring.product c.args.lists.now c.args.self.now c.requires.settled)

pub pop-requires-clause-heap : goal.pop-requires-clause-heap
pop-requires-clause-heap g c =
    subst (λ (w : QueueOf). IsHeap (λ a b. offers_cmp c.args.lists.now.labels (stands_for c.args.lists.now a) (stands_for c.args.lists.now b)) w.heap) (sym c.self.view_is) c.requires.settled.queue.heap

pub returns-clause-some : goal.returns-clause-some
returns-clause-some g c =
    takes_least g.S.Semiring.product c.args.lists.now c.args.self.now _ c.self.inside.heap.items c.pop.new.heap.items c.self.view_is c.requires.settled c.pop.result c.pop.ensures.heap c.pop.ensures.takes
