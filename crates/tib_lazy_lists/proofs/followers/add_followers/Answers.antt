use Rattle.std.specs.Prelude.{ℕ, List, length, ◌<◌, ◌≡◌, refl}
use Rattle.std.proofs.Common.{arith, subst, ap}
use Rattle.tib_grammar.specs.Run.{rule_at}
use Rattle.tib_ranked_trees.specs.Levels.{states_of, states_at}
use Rattle.tib_ranked_trees.specs.ListsOf.{ListsOf}
use Rattle.tib_ranked_trees.specs.Held.{candidate_at, entries_of, below_of, ranks_of, IsLast}
use Rattle.tib_ranked_trees.proofs.Offering.{ranks_long}
use Rattle.tib_ranked_trees.specs.declared.lists.Candidate.{Candidate}
use Rattle.tib_lazy_lists.proofs.Kept.{more_keeps}
use Rattle.tib_lazy_lists.proofs.Followed.{followed_none, followed_at, followed_all, tuple_read, tuple_more, ranks_read}
use Rattle.tib_lazy_lists.proofs.followers.add_followers.Goals as goal

pub loop-i-init : goal.loop-i-init
loop-i-init g c = followed_none g.S.Semiring.product c.args.lists.now (candidate_at c.args.lists.now c.args.last) c.last-i.result c.last-i.result c.args.heap.now.items (omega arith) c.requires.held

pub add_next-requires-clause-held : goal.add_next-requires-clause-held
add_next-requires-clause-held g c = c.loop-i.invariant.held

pub add_next-requires-clause-tuple : goal.add_next-requires-clause-tuple
add_next-requires-clause-tuple g c =
    let x : ListsOf = c.args.lists.now in
    tuple_read x c.loop-i.lists c.requires.held.lists.sound c.loop-i.invariant.more (candidate_at x c.args.last) c.candidate.result.now c.candidate-2.result.now c.candidate.ensures c.candidate-2.ensures
    (c.requires.held.lists.made c.args.last c.requires.last).is.tuple

pub add_next-requires-clause-below : goal.add_next-requires-clause-below
add_next-requires-clause-below g c =
    more_keeps c.args.lists.now c.loop-i.lists c.loop-i.invariant.more (λ z. c.loop-i.i < length (states_at z.rules c.candidate.result.now.rule)) (omega (arith, c.loop-i-test.true, c.count-count.ensures.many))

pub loop-i-preserved : goal.loop-i-preserved
loop-i-preserved g c =
    let x : ListsOf = c.args.lists.now in
    let d : Candidate = candidate_at x c.args.last in
    followed_at g.S.Semiring.product x d c.last-i.result c.loop-i.i c.args.heap.now.items c.loop-i.lists c.loop-i.heap.items c.loop-i.invariant
    (tuple_more x c.loop-i.lists c.requires.held.lists.sound c.loop-i.invariant.more d.rule d.start (c.requires.held.lists.made c.args.last c.requires.last).is.tuple).1 (omega arith)
    (omega (arith, ap (λ (e : Candidate). length (below_of x e)) c.candidate.ensures, c.loop-i-test.true, c.count-count.ensures.many))
    (ranks_long (entries_of x) (below_of x d) (ranks_of x d) (c.requires.held.lists.made c.args.last c.requires.last).is.tuple.ranks) c.candidate.result.now c.candidate-2.result.now
    c.candidate.ensures c.candidate-2.ensures c.add_next.new.lists c.add_next.new.heap.items c.in_ok-add_next.ensures

pub returns : goal.returns
returns g c =
    let x : ListsOf = c.args.lists.now in
    let d : Candidate = candidate_at x c.args.last in
    let long : length (states_of (rule_at x.rules c.candidate.result.now.rule)) ≡ length (below_of x d) = ap (λ (e : Candidate). length (below_of x e)) c.candidate.ensures in
    record {
      first = c.last-i.result;
      is_last = subst (λ (js : List ℕ). IsLast js c.last-i.result) (ranks_read x d c.candidate.result.now c.candidate-2.result.now c.candidate.ensures c.candidate-2.ensures) c.last-i.ensures;
      followed = followed_all g.S.Semiring.product x d c.last-i.result (length (below_of x d)) c.loop-i.i c.args.heap.now.items c.loop-i.lists c.loop-i.heap.items (omega (arith, long, c.loop-i-test.false, c.count-count.ensures.many)) refl c.loop-i.invariant;
    }
