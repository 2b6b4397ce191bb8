use Rattle.std.proofs.Common.{length, arith, ◌∙◌, ap}
use Rattle.tib_ranked_trees.specs.ListsOf.{ListsOf}
use Rattle.tib_ranked_trees.specs.Held.{told}
use Rattle.tib_ranked_trees.proofs.Children.{read_child, rank_within}
use Rattle.tib_ranked_trees.proofs.lists.Lists.child.Goals as goal

pub overflow_add-start : goal.overflow_add-start
overflow_add-start c =
    let w = rank_within c.args.self.now c.args.rule c.args.start c.args.i c.requires.tuple c.requires.below in
    let e = ap (λ (x : ListsOf). length x.ranks) c.self.view_is in
    search (arith, w, e, c.self.inside.ranks.ok.0)

pub index-requires : goal.index-requires
index-requires c =
    let w = rank_within c.args.self.now c.args.rule c.args.start c.args.i c.requires.tuple c.requires.below in
    let e = ap (λ (x : ListsOf). length x.ranks) c.self.view_is in
    omega (arith, w, e, c.self.inside.ranks.ok.0)

pub entry-requires-clause-state : goal.entry-requires-clause-state
entry-requires-clause-state c =
    (read_child c.args.self.now c.requires.sound c.args.rule c.args.start c.args.i c.state.result c.index.result.now c.requires.tuple c.requires.below c.self.inside.rules.now
    (ap (λ (x : ListsOf). x.rules) c.self.view_is) c.states_below-states.result.now c.index-self-rule.result c.states_below-states.ensures.states c.state.ensures
    c.self.inside.ranks.items (ap (λ (x : ListsOf). x.ranks) c.self.view_is) c.index.result.now c.index.ensures).state

pub entry-requires-clause-rank : goal.entry-requires-clause-rank
entry-requires-clause-rank c =
    (read_child c.args.self.now c.requires.sound c.args.rule c.args.start c.args.i c.state.result c.index.result.now c.requires.tuple c.requires.below c.self.inside.rules.now
    (ap (λ (x : ListsOf). x.rules) c.self.view_is) c.states_below-states.result.now c.index-self-rule.result c.states_below-states.ensures.states c.state.ensures
    c.self.inside.ranks.items (ap (λ (x : ListsOf). x.ranks) c.self.view_is) c.index.result.now c.index.ensures).rank

pub returns-clause-same : goal.returns-clause-same
returns-clause-same c =
    ap (told c.args.self.now.trees) c.entry.ensures
    ∙ (read_child c.args.self.now c.requires.sound c.args.rule c.args.start c.args.i c.state.result c.index.result.now c.requires.tuple c.requires.below c.self.inside.rules.now
    (ap (λ (x : ListsOf). x.rules) c.self.view_is) c.states_below-states.result.now c.index-self-rule.result c.states_below-states.ensures.states c.state.ensures
    c.self.inside.ranks.items (ap (λ (x : ListsOf). x.ranks) c.self.view_is) c.index.result.now c.index.ensures).same

pub returns-clause-there : goal.returns-clause-there
returns-clause-there c =
    let k = (read_child c.args.self.now c.requires.sound c.args.rule c.args.start c.args.i c.state.result c.index.result.now c.requires.tuple c.requires.below c.self.inside.rules.now
    (ap (λ (x : ListsOf). x.rules) c.self.view_is) c.states_below-states.result.now c.index-self-rule.result c.states_below-states.ensures.states c.state.ensures
    c.self.inside.ranks.items (ap (λ (x : ListsOf). x.ranks) c.self.view_is) c.index.result.now c.index.ensures).there in
    rw c.entry.ensures k
