use Rattle.std.proofs.Common.{arith, ap, ◌∙◌, sym, length}
use Rattle.tib_ranked_trees.specs.ListsOf.{ListsOf}
use Rattle.tib_ranked_trees.specs.Held.{ranks_of, tree_by, below_of, entries_of}
use Rattle.tib_ranked_trees.proofs.Comparing.{is_equal, not_equal, read_root, roots_by_label, roots_by_count, many_kids}
use Rattle.tib_ranked_trees.proofs.lists.Lists.compare_roots.Goals as goal

pub bounds-self-inside-left : goal.bounds-self-inside-left
bounds-self-inside-left c =
    let r = read_root c.args.self.now c.requires.sound c.args.one.now.rule c.requires.one.tuple.rule c.self.inside.rules.now (ap (λ (x : ListsOf). x.rules) c.self.view_is) c.index-self-one.result c.root-left.result.0
    c.root-left.result.1 c.root-left.ensures.label c.root-left.ensures.rank in
    omega (arith, r.below, c.requires.sound.ranked.long, ap (λ (x : ListsOf). length x.label_ranks) c.self.view_is)

pub bounds-self-inside-right : goal.bounds-self-inside-right
bounds-self-inside-right c =
    let r = read_root c.args.self.now c.requires.sound c.args.other.now.rule c.requires.other.tuple.rule c.self.inside.rules.now (ap (λ (x : ListsOf). x.rules) c.self.view_is) c.index-self-other.result c.root-right.result.0
    c.root-right.result.1 c.root-right.ensures.label c.root-right.ensures.rank in
    omega (arith, r.below, c.requires.sound.ranked.long, ap (λ (x : ListsOf). length x.label_ranks) c.self.view_is)

pub returns-then-ne-2 : goal.returns-then-ne-2
returns-then-ne-2 c =
    let r = read_root c.args.self.now c.requires.sound c.args.one.now.rule c.requires.one.tuple.rule c.self.inside.rules.now (ap (λ (x : ListsOf). x.rules) c.self.view_is) c.index-self-one.result c.root-left.result.0
    c.root-left.result.1 c.root-left.ensures.label c.root-left.ensures.rank in
    let q = read_root c.args.self.now c.requires.sound c.args.other.now.rule c.requires.other.tuple.rule c.self.inside.rules.now (ap (λ (x : ListsOf). x.rules) c.self.view_is) c.index-self-other.result c.root-right.result.0
    c.root-right.result.1 c.root-right.ensures.label c.root-right.ensures.rank in
    roots_by_label c.args.self.now c.requires.sound (tree_by c.args.self.now c.args.one.now.rule (ranks_of c.args.self.now c.args.one.now)) (tree_by c.args.self.now c.args.other.now.rule (ranks_of c.args.self.now c.args.other.now))
    c.cmp-sizes.result c.args.one.now.size c.args.other.now.size c.cmp-sizes.ensures c.requires.one.size c.requires.other.size (is_equal c.cmp-sizes.result c.if-ne.ensures)
    c.root-left.result.0 c.root-right.result.0 r.label q.label r.below q.below c.self.inside.label_ranks.now (ap (λ (x : ListsOf). x.label_ranks) c.self.view_is) c.cmp-labels.result c.cmp-labels.ensures
    (not_equal c.cmp-labels.result c.if-ne-2.ensures)

pub returns : goal.returns
returns c =
    let r = read_root c.args.self.now c.requires.sound c.args.one.now.rule c.requires.one.tuple.rule c.self.inside.rules.now (ap (λ (x : ListsOf). x.rules) c.self.view_is) c.index-self-one.result c.root-left.result.0
    c.root-left.result.1 c.root-left.ensures.label c.root-left.ensures.rank in
    let q = read_root c.args.self.now c.requires.sound c.args.other.now.rule c.requires.other.tuple.rule c.self.inside.rules.now (ap (λ (x : ListsOf). x.rules) c.self.view_is) c.index-self-other.result c.root-right.result.0
    c.root-right.result.1 c.root-right.ensures.label c.root-right.ensures.rank in
    roots_by_count c.args.self.now c.requires.sound (tree_by c.args.self.now c.args.one.now.rule (ranks_of c.args.self.now c.args.one.now)) (tree_by c.args.self.now c.args.other.now.rule (ranks_of c.args.self.now c.args.other.now))
    c.cmp-sizes.result c.args.one.now.size c.args.other.now.size c.cmp-sizes.ensures c.requires.one.size c.requires.other.size (is_equal c.cmp-sizes.result c.if-ne.ensures)
    c.root-left.result.0 c.root-right.result.0 r.label q.label r.below q.below c.self.inside.label_ranks.now (ap (λ (x : ListsOf). x.label_ranks) c.self.view_is) c.cmp-labels.result c.cmp-labels.ensures
    (is_equal c.cmp-labels.result c.if-ne-2.ensures) c.cmp.result c.root-left.result.1 c.root-right.result.1 c.cmp.ensures
    (r.many ∙ sym (many_kids (entries_of c.args.self.now) (below_of c.args.self.now c.args.one.now) (ranks_of c.args.self.now c.args.one.now) c.requires.one.tuple.ranks))
    (q.many ∙ sym (many_kids (entries_of c.args.self.now) (below_of c.args.self.now c.args.other.now) (ranks_of c.args.self.now c.args.other.now) c.requires.other.tuple.ranks))
