use Rattle.std.proofs.Common.{ap, sym, ◌∙◌, get_or, length}
use Rattle.tib_tree.proofs.Orderings.{is_tied, is_decided, nat_equal}
use Rattle.tib_ranked_trees.proofs.Descending.{roots_by_size, roots_by_rank, roots_by_count}
use Rattle.tib_ranked_trees.specs.Numbers.{told_size}
use Rattle.tib_ranked_trees.proofs.kept.Trees.compare_roots.Goals as goal

pub returns-then-ne-clause-order : goal.returns-then-ne-clause-order
returns-then-ne-clause-order c s t p q =
    roots_by_size c.args.self.now c.args.ranks.now c.args.one c.args.other (told_size s) (told_size t) c.cmp-sizes.result c.size.result c.size-2.result c.cmp-sizes.ensures (c.size.ensures.value s p) (c.size-2.ensures.value t q)
    (is_decided c.cmp-sizes.result (sym c.ne.ensures ∙ c.if-ne.true))

pub returns-then-left-right-clause-order : goal.returns-then-left-right-clause-order
returns-then-left-right-clause-order c s t p q =
    roots_by_rank c.args.self.now c.args.ranks.now c.args.one c.args.other (told_size s) (told_size t) c.cmp-sizes.result c.cmp.result c.size.result c.size-2.result (get_or c.args.ranks.now c.label.result 0) (get_or c.args.ranks.now c.label-2.result 0)
    c.cmp-sizes.ensures (c.size.ensures.value s p) (c.size-2.ensures.value t q) (is_tied c.cmp-sizes.result (sym c.ne.ensures ∙ c.if-ne.false))
    (ap (λ f. get_or c.args.ranks.now f 0) c.label.ensures.value) (ap (λ f. get_or c.args.ranks.now f 0) c.label-2.ensures.value) c.if-left-right.true c.cmp.ensures

pub returns-then-left-right-clause-counts : goal.returns-then-left-right-clause-counts
returns-then-left-right-clause-counts c e = absurd (c.if-left-right.true (nat_equal _ _ (sym c.cmp.ensures ∙ e)))

pub returns-clause-order : goal.returns-clause-order
returns-clause-order c s t p q =
    roots_by_count c.args.self.now c.args.ranks.now c.args.one c.args.other (told_size s) (told_size t) c.cmp-sizes.result c.cmp-2.result c.size.result c.size-2.result (get_or c.args.ranks.now c.label.result 0) (get_or c.args.ranks.now c.label-2.result 0)
    c.children.result.now c.children-2.result.now c.cmp-sizes.ensures (c.size.ensures.value s p) (c.size-2.ensures.value t q) (is_tied c.cmp-sizes.result (sym c.ne.ensures ∙ c.if-ne.false))
    (ap (λ f. get_or c.args.ranks.now f 0) c.label.ensures.value) (ap (λ f. get_or c.args.ranks.now f 0) c.label-2.ensures.value) c.if-left-right.false c.children.ensures.value c.children-2.ensures.value c.cmp-2.ensures

pub returns-clause-counts : goal.returns-clause-counts
returns-clause-counts c e =
    ap length (sym c.children.ensures.value) ∙ nat_equal _ _ (sym c.cmp-2.ensures ∙ e) ∙ ap length c.children-2.ensures.value
