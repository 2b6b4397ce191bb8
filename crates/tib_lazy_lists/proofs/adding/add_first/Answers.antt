use Rattle.tib_ranked_trees.specs.Levels.{states_at}
use Rattle.tib_ranked_trees.specs.Pass.{zeros_at}
use Rattle.tib_lazy_lists.proofs.Added.{ranks_put, on_ok}
use Rattle.tib_lazy_lists.proofs.Followed.{zeros_long}
use Rattle.tib_lazy_lists.proofs.adding.add_first.Goals as goal

pub add-requires-clause-held : goal.add-requires-clause-held
add-requires-clause-held g c =
    (ranks_put g.S.Semiring.product c.args.lists.now c.args.heap.now.items c.requires.held c.args.rule (zeros_at c.args.lists.now.rules c.args.rule) (record { rule = c.requires.rule; ranks = c.requires.ranks })
    (zeros_long (states_at c.args.lists.now.rules c.args.rule)) c.zeros.new.self c.in_ok-start.ensures.put c.in_ok-start.start c.in_ok-start.ensures.start).held

pub add-requires-clause-tuple : goal.add-requires-clause-tuple
add-requires-clause-tuple g c =
    (ranks_put g.S.Semiring.product c.args.lists.now c.args.heap.now.items c.requires.held c.args.rule (zeros_at c.args.lists.now.rules c.args.rule) (record { rule = c.requires.rule; ranks = c.requires.ranks })
    (zeros_long (states_at c.args.lists.now.rules c.args.rule)) c.zeros.new.self c.in_ok-start.ensures.put c.in_ok-start.start c.in_ok-start.ensures.start).tuple

pub returns : goal.returns
returns g c =
    let p = ranks_put g.S.Semiring.product c.args.lists.now c.args.heap.now.items c.requires.held c.args.rule (zeros_at c.args.lists.now.rules c.args.rule) (record { rule = c.requires.rule; ranks = c.requires.ranks })
    (zeros_long (states_at c.args.lists.now.rules c.args.rule)) c.zeros.new.self c.in_ok-start.ensures.put c.in_ok-start.start c.in_ok-start.ensures.start
    in
    on_ok c.add.result _ _ (p.offered c.add.new.lists c.add.new.heap.items) c.add.ensures
