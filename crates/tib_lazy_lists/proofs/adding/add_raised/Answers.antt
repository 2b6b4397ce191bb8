use Rattle.std.specs.Prelude.{ℕ, List}
use Rattle.std.proofs.Common.{◌∙◌}
use Rattle.tib_ranked_trees.specs.Levels.{states_at}
use Rattle.tib_ranked_trees.specs.Held.{ranks_from, raise, entries_of}
use Rattle.tib_ranked_trees.proofs.Made.{length-raise}
use Rattle.tib_ranked_trees.proofs.Offering.{ranks_long}
use Rattle.tib_lazy_lists.proofs.Added.{ranks_put, on_ok}
use Rattle.tib_lazy_lists.proofs.Followed.{raised_tuple}
use Rattle.tib_lazy_lists.proofs.adding.add_raised.Goals as goal

pub add-requires-clause-held : goal.add-requires-clause-held
add-requires-clause-held g c =
    let js : List ℕ = ranks_from c.args.lists.now c.args.rule c.args.start in
    (ranks_put g.S.Semiring.product c.args.lists.now c.args.heap.now.items c.requires.held c.args.rule (raise c.args.i js) (raised_tuple c.args.lists.now c.args.rule c.args.i js c.requires.tuple c.requires.below c.requires.next)
    (length-raise c.args.i js ∙ ranks_long (entries_of c.args.lists.now) (states_at c.args.lists.now.rules c.args.rule) js c.requires.tuple.ranks) c.raised.new.self c.in_ok-raised.ensures.put c.in_ok-raised.raised
    c.in_ok-raised.ensures.start).held

pub add-requires-clause-tuple : goal.add-requires-clause-tuple
add-requires-clause-tuple g c =
    let js : List ℕ = ranks_from c.args.lists.now c.args.rule c.args.start in
    (ranks_put g.S.Semiring.product c.args.lists.now c.args.heap.now.items c.requires.held c.args.rule (raise c.args.i js) (raised_tuple c.args.lists.now c.args.rule c.args.i js c.requires.tuple c.requires.below c.requires.next)
    (length-raise c.args.i js ∙ ranks_long (entries_of c.args.lists.now) (states_at c.args.lists.now.rules c.args.rule) js c.requires.tuple.ranks) c.raised.new.self c.in_ok-raised.ensures.put c.in_ok-raised.raised
    c.in_ok-raised.ensures.start).tuple

pub returns : goal.returns
returns g c =
    let js : List ℕ = ranks_from c.args.lists.now c.args.rule c.args.start in
    let p = ranks_put g.S.Semiring.product c.args.lists.now c.args.heap.now.items c.requires.held c.args.rule (raise c.args.i js) (raised_tuple c.args.lists.now c.args.rule c.args.i js c.requires.tuple c.requires.below c.requires.next)
    (length-raise c.args.i js ∙ ranks_long (entries_of c.args.lists.now) (states_at c.args.lists.now.rules c.args.rule) js c.requires.tuple.ranks) c.raised.new.self c.in_ok-raised.ensures.put c.in_ok-raised.raised
    c.in_ok-raised.ensures.start
    in
    on_ok c.add.result _ _ (p.offered c.add.new.lists c.add.new.heap.items) c.add.ensures
