use Rattle.std.specs.Prelude.{ℕ, List}
use Rattle.std.proofs.Common.{subst, sym}
use Rattle.tib_lex.specs.Lists.{Has}
use Rattle.tib_ranked_trees.specs.Heaps.{IsHeap, Adds}
use Rattle.tib_ranked_trees.specs.ListsOf.{ListsOf}
use Rattle.tib_ranked_trees.specs.Held.{offers_cmp, stands_for, IsKnownBy}
use Rattle.tib_k_best.specs.QueueOf.{QueueOf}
use Rattle.tib_k_best.specs.Queues.{IsQueue}
use Rattle.tib_k_best.proofs.Beginning.{tuple_put, too_dear, begins, queue_on_ok}
use Rattle.tib_k_best.proofs.queue.Queue.begin.Goals as goal

pub make-requires-clause-tuple : goal.make-requires-clause-tuple
make-requires-clause-tuple g c =
    (tuple_put c.args.lists.now c.requires.queue.1.sound c.args.rule c.in_ok-start.start c.requires.rule c.requires.all c.in_ok-start.ensures.start c.zeros.new.self c.in_ok-start.ensures.put).1

pub returns-in_default-clause-queue : goal.returns-in_default-clause-queue
returns-in_default-clause-queue g c =
    let m = rw c.in_default.is at c.in_ok-candidate.ensures in
    λ out queue. too_dear g.S.Semiring.product c.args.lists.now c.args.self.now c.args.rule c.in_ok-start.start out queue c.requires.all c.in_ok-start.ensures.start c.zeros.new.self c.make.new.self c.in_ok-start.ensures.put m.0 m.1

pub push-requires-clause-known : goal.push-requires-clause-known
push-requires-clause-known g c =
    let m = rw c.in-Some.is at c.in_ok-candidate.ensures in
    let b = begins g.S.Semiring.product c.args.lists.now c.args.self.now c.args.rule c.in_ok-start.start c.requires.queue.0 c.requires.queue.1 c.requires.rule c.in_ok-start.ensures.start c.requires.all c.zeros.new.self c.make.new.self
    c.in-Some.candidate c.in_ok-start.ensures.put m in
    subst (λ (w : QueueOf). (z : ℕ) → Has w.heap z → IsKnownBy c.make.new.self z) (sym c.self.view_is) b.known

pub push-requires-clause-number : goal.push-requires-clause-number
push-requires-clause-number g c =
    let m = rw c.in-Some.is at c.in_ok-candidate.ensures in
    let b = begins g.S.Semiring.product c.args.lists.now c.args.self.now c.args.rule c.in_ok-start.start c.requires.queue.0 c.requires.queue.1 c.requires.rule c.in_ok-start.ensures.start c.requires.all c.zeros.new.self c.make.new.self
    c.in-Some.candidate c.in_ok-start.ensures.put m in
    b.number

pub push-requires-clause-heap : goal.push-requires-clause-heap
push-requires-clause-heap g c =
    let m = rw c.in-Some.is at c.in_ok-candidate.ensures in
    let b = begins g.S.Semiring.product c.args.lists.now c.args.self.now c.args.rule c.in_ok-start.start c.requires.queue.0 c.requires.queue.1 c.requires.rule c.in_ok-start.ensures.start c.requires.all c.zeros.new.self c.make.new.self
    c.in-Some.candidate c.in_ok-start.ensures.put m in
    let y : ListsOf = c.make.new.self in
    subst (λ (w : QueueOf). IsHeap (λ a b. offers_cmp y.labels (stands_for y a) (stands_for y b)) w.heap) (sym c.self.view_is) b.heap

pub returns-clause-queue : goal.returns-clause-queue
returns-clause-queue g c =
    let m = rw c.in-Some.is at c.in_ok-candidate.ensures in
    let y : ListsOf = c.make.new.self in
    let heap : List ℕ = c.push.new.heap.items in
    queue_on_ok c.push.result (Adds c.self.inside.heap.items c.in-Some.candidate heap) _
    (λ adds out queue.
    let b = begins g.S.Semiring.product c.args.lists.now c.args.self.now c.args.rule c.in_ok-start.start out queue c.requires.rule c.in_ok-start.ensures.start c.requires.all c.zeros.new.self c.make.new.self
    c.in-Some.candidate c.in_ok-start.ensures.put m in
    subst (λ (w : QueueOf). Adds w.heap c.in-Some.candidate heap → IsQueue g.S.Semiring.product y (record { waiting = w.waiting; heap = heap }) out) (sym c.self.view_is) (b.queue heap c.push.ensures.heap) adds)
    c.push.ensures.adds
