use Rattle.std.proofs.Common.{ap, ◌∙◌, sym}
use Rattle.std.specs.declared.cmp.Ordering.{Ordering}
use Rattle.std.specs.Ordering.{ordering_then}
use Rattle.tib_ranked_trees.specs.Held.{ranks_of, tree_by, below_of, entries_of}
use Rattle.tib_ranked_trees.specs.Ordered.{kids_cmp, roots_cmp}
use Rattle.tib_ranked_trees.proofs.Comparing.{is_equal, not_equal, then_stop, then_skip, tree_is, same_count, many_kids}
use Rattle.tib_ranked_trees.proofs.lists.Lists.compare_trees.Goals as goal

pub returns-then-ne : goal.returns-then-ne
returns-then-ne c =
    let s = tree_by c.args.self.now c.args.one.now.rule (ranks_of c.args.self.now c.args.one.now) in
    let t = tree_by c.args.self.now c.args.other.now.rule (ranks_of c.args.self.now c.args.other.now) in
    sym (tree_is c.args.self.now.labels s t ∙ ap (λ (o : Ordering). ordering_then o (kids_cmp c.args.self.now.labels s.kids t.kids)) (sym c.compare_roots-roots.ensures)
    ∙ then_stop c.compare_roots-roots.result (kids_cmp c.args.self.now.labels s.kids t.kids) (not_equal c.compare_roots-roots.result c.if-ne.ensures))

pub compare_children-requires-clause-as_many : goal.compare_children-requires-clause-as_many
compare_children-requires-clause-as_many c =
    let s = tree_by c.args.self.now c.args.one.now.rule (ranks_of c.args.self.now c.args.one.now) in
    let t = tree_by c.args.self.now c.args.other.now.rule (ranks_of c.args.self.now c.args.other.now) in
    sym (many_kids (entries_of c.args.self.now) (below_of c.args.self.now c.args.one.now) (ranks_of c.args.self.now c.args.one.now) c.requires.one.tuple.ranks)
    ∙ same_count c.args.self.now.labels s t (sym c.compare_roots-roots.ensures ∙ is_equal c.compare_roots-roots.result c.if-ne.ensures)
    ∙ many_kids (entries_of c.args.self.now) (below_of c.args.self.now c.args.other.now) (ranks_of c.args.self.now c.args.other.now) c.requires.other.tuple.ranks

pub returns : goal.returns
returns c =
    let s = tree_by c.args.self.now c.args.one.now.rule (ranks_of c.args.self.now c.args.one.now) in
    let t = tree_by c.args.self.now c.args.other.now.rule (ranks_of c.args.self.now c.args.other.now) in
    c.compare_children.ensures ∙ sym (tree_is c.args.self.now.labels s t
    ∙ then_skip (roots_cmp c.args.self.now.labels s t) (kids_cmp c.args.self.now.labels s.kids t.kids) (sym c.compare_roots-roots.ensures ∙ is_equal c.compare_roots-roots.result c.if-ne.ensures))
