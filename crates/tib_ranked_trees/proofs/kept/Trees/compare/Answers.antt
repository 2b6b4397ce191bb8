use Rattle.std.proofs.Common.{ap, sym, ◌∙◌, length, get_or, refl, arith, subst}
use Rattle.std.specs.declared.cmp.Ordering.TheVariants.{Equal}
use Rattle.tib_ranked_trees.specs.Ranked.{IsOrderOf}
use Rattle.tib_lex.proofs.Members.{has_at}
use Rattle.tib_tree.proofs.Orderings.{is_tied, is_decided}
use Rattle.tib_ranked_trees.proofs.Descending.{order_itself, order_roots, order_down, order_none}
use Rattle.tib_ranked_trees.proofs.kept.Trees.compare.Goals as goal

pub returns-then-ne : goal.returns-then-ne
returns-then-ne c =
    c.loop-left.invariant.2 c.compare_roots-order.result
    (order_roots c.args.self.now c.args.ranks.now c.len.ensures.distinct c.requires.labels c.loop-left.left c.loop-left.right c.compare_roots-order.result c.compare_roots-order.ensures.order (is_decided c.compare_roots-order.result (sym c.ne.ensures ∙ c.if-ne.true)))

pub first_other-requires : goal.first_other-requires
first_other-requires c =
    ap length c.children-below.ensures.value ∙ c.compare_roots-order.ensures.counts (is_tied c.compare_roots-order.result (sym c.ne.ensures ∙ c.if-ne.false)) ∙ ap length (sym c.children-beside.ensures.value)

pub returns-in_default : goal.returns-in_default
returns-in_default c =
    c.loop-left.invariant.2 _
    (order_none c.args.self.now c.args.ranks.now c.len.ensures.distinct c.requires.labels c.loop-left.left c.loop-left.right c.compare_roots-order.result c.compare_roots-order.ensures.order (is_tied c.compare_roots-order.result (sym c.ne.ensures ∙ c.if-ne.false))
    (sym c.children-below.ensures.value ∙ c.in_default.ensures.none refl ∙ c.children-beside.ensures.value) c.loop-left-test.true)

pub loop-left-smaller : goal.loop-left-smaller
loop-left-smaller c = c.children-below.ensures.low _ (has_at c.children-below.result.now c.in-Some.i 0 c.in-Some.ensures.some.below)

pub loop-left-preserved : goal.loop-left-preserved
loop-left-preserved c =
    let f = c.in-Some.ensures.some in
    let left = c.children-below.ensures.low _ (has_at c.children-below.result.now c.in-Some.i 0 f.below) in
    let right = c.children-beside.ensures.low _ (has_at c.children-beside.result.now c.in-Some.i 0 (omega (arith, f.below, f.long))) in (
      omega (arith, left, c.loop-left.invariant.0),
      omega (arith, right, c.loop-left.invariant.1),
      λ order below. c.loop-left.invariant.2 order
          (order_down c.args.self.now c.args.ranks.now c.len.ensures.distinct c.requires.labels c.loop-left.left c.loop-left.right c.compare_roots-order.result c.children-below.result.now c.children-beside.result.now c.in-Some.i
          (get_or c.children-below.result.now c.in-Some.i 0) (get_or c.children-beside.result.now c.in-Some.i 0) order c.compare_roots-order.ensures.order (is_tied c.compare_roots-order.result (sym c.ne.ensures ∙ c.if-ne.false)) c.children-below.ensures.value
          c.children-beside.ensures.value f refl refl below),
    )

pub returns : goal.returns
returns c =
    c.loop-left.invariant.2 Equal
    (subst (λ w. IsOrderOf c.args.self.now c.args.ranks.now c.loop-left.left w Equal) c.loop-left-test.false
    (order_itself c.args.self.now c.args.ranks.now c.len.ensures.distinct c.requires.labels c.loop-left.left))
