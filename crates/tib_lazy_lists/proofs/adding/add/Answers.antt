use Rattle.std.specs.Prelude.{◌≡◌, ◌+◌, ℕ, List, length}
use Rattle.std.proofs.Common.{arith}
use Rattle.tib_ranked_trees.specs.Heaps.{Adds}
use Rattle.tib_ranked_trees.specs.Held.{ranks_from}
use Rattle.tib_lazy_lists.proofs.Added.{offers_none, begins, on_ok_both}
use Rattle.tib_lazy_lists.proofs.adding.add.Goals as goal

pub returns-in_default : goal.returns-in_default
returns-in_default g c =
    let m = rw c.in_default.is at c.in_ok-candidate.ensures in
    offers_none g.S.Semiring.product (Unit {0}) c.args.lists.now c.args.rule (ranks_from c.args.lists.now c.args.rule c.args.start) c.args.heap.now.items c.requires.held (λ w fits. omega (arith, m.0, fits)) c.make.new.self m.1

pub push-requires-clause-known : goal.push-requires-clause-known
push-requires-clause-known g c =
    (begins g.S.Semiring.product c.args.lists.now c.args.heap.now.items c.requires.held c.args.rule c.args.start c.requires.tuple c.make.new.self c.in-Some.candidate (rw c.in-Some.is at c.in_ok-candidate.ensures)).known

pub push-requires-clause-number : goal.push-requires-clause-number
push-requires-clause-number g c =
    (begins g.S.Semiring.product c.args.lists.now c.args.heap.now.items c.requires.held c.args.rule c.args.start c.requires.tuple c.make.new.self c.in-Some.candidate (rw c.in-Some.is at c.in_ok-candidate.ensures)).number

pub push-requires-clause-heap : goal.push-requires-clause-heap
push-requires-clause-heap g c =
    (begins g.S.Semiring.product c.args.lists.now c.args.heap.now.items c.requires.held c.args.rule c.args.start c.requires.tuple c.make.new.self c.in-Some.candidate (rw c.in-Some.is at c.in_ok-candidate.ensures)).is_heap

pub returns : goal.returns
returns g c =
    let b = begins g.S.Semiring.product c.args.lists.now c.args.heap.now.items c.requires.held c.args.rule c.args.start c.requires.tuple c.make.new.self c.in-Some.candidate (rw c.in-Some.is at c.in_ok-candidate.ensures) in
    let heap : List ℕ = c.push.new.heap.items in
    on_ok_both c.push.result (Adds c.args.heap.now.items c.in-Some.candidate heap) (length heap ≡ length c.args.heap.now.items + 1) _
    (λ adds long. b.offered heap c.push.ensures.heap adds long (omega arith)) c.push.ensures.adds c.push.ensures.long
