use Rattle.std.specs.Prelude.{ℕ, List}
use Rattle.std.proofs.Common.{arith, ap, length, ◌∙◌, ◌+◌, get_or}
use Rattle.tib_ranked_trees.specs.ListsOf.{ListsOf}
use Rattle.tib_ranked_trees.proofs.Children.{rank_within, rank_read, get_or-default}
use Rattle.tib_ranked_trees.proofs.lists.Lists.rank.Goals as goal

pub overflow_add-start : goal.overflow_add-start
overflow_add-start c =
    let w = rank_within c.args.self.now c.args.rule c.args.start c.args.i c.requires.tuple c.requires.below in
    let e = ap (λ (x : ListsOf). length x.ranks) c.self.view_is in
    search (arith, w, e, c.self.inside.ranks.ok.0)

pub index-requires : goal.index-requires
index-requires c =
    let w = rank_within c.args.self.now c.args.rule c.args.start c.args.i c.requires.tuple c.requires.below in
    let e = ap (λ (x : ListsOf). length x.ranks) c.self.view_is in
    omega (arith, w, e, c.self.inside.ranks.ok.0)

pub returns : goal.returns
returns c =
    let w = rank_within c.args.self.now c.args.rule c.args.start c.args.i c.requires.tuple c.requires.below in
    c.index.ensures ∙ ap (λ (x : ListsOf). get_or x.ranks (c.args.start + c.args.i) c.index.result.now) c.self.view_is
    ∙ get_or-default c.args.self.now.ranks (c.args.start + c.args.i) c.index.result.now 0 w
    ∙ rank_read c.args.self.now c.args.rule c.args.start c.args.i c.requires.tuple c.requires.below
