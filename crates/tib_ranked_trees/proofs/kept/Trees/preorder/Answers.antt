use Rattle.std.proofs.Common.{rules, arith, [], ◌∷◌, refl, subst, sym, length, inl, inr, ◌<◌, ◌+◌, ◌≡◌}
use Rattle.tib_lex.specs.Lists.{Has}
use Rattle.tib_ranked_trees.specs.Numbers.{back}
use Rattle.tib_ranked_trees.proofs.Remaining.{Remains, next_below, stack_below, remains_first, remains_next, remains_few, remains_narrow, remains_none}
use Rattle.tib_ranked_trees.proofs.kept.Trees.preorder.Goals as goal

pub loop-next-init : goal.loop-next-init
loop-next-init c =
    let one : c.push.new.self.items ≡ c.args.tree ∷ [] = search rules in
    let none : c.new-nodes.result.items ≡ [] = search rules in (
      λ m h. elim (subst (λ ns. Has (back ns) m) one h) [ inl e ↦ subst (λ k. k < length c.args.self.now) e c.requires.below | inr b ↦ absurd b ],
      λ t a. subst (λ ns. Remains c.args.self.now t c.push.new.self.items ns) (sym none) (remains_first c.args.self.now c.args.tree c.push.new.self.items t a one),
    )

pub children-children-requires : goal.children-children-requires
children-children-requires c =
    next_below (length c.args.self.now) c.loop-next.stack.items c.pop.new.self.items c.in-Some.next c.loop-next.invariant.0 c.in-Some.ensures.items

pub label-requires : goal.label-requires
label-requires c =
    next_below (length c.args.self.now) c.loop-next.stack.items c.pop.new.self.items c.in-Some.next c.loop-next.invariant.0 c.in-Some.ensures.items

pub overflow_cast-children : goal.overflow_cast-children
overflow_cast-children c =
    let t = c.size.ensures.named in
    let few = remains_narrow c.args.self.now t.0 c.loop-next.stack.items c.pop.new.self.items c.loop-next.nodes.items c.in-Some.next c.children-children.result.now (c.loop-next.invariant.1 t.0 t.1) c.in-Some.ensures.items c.children-children.ensures.value in
    let small = c.requires.small t.0 t.1 in
    search (rules, few, small)

pub loop-next-smaller : goal.loop-next-smaller
loop-next-smaller c =
    let t = c.size.ensures.named in
    let few = remains_few c.args.self.now t.0 c.loop-next.stack.items c.pop.new.self.items c.loop-next.nodes.items c.in-Some.next (c.loop-next.invariant.1 t.0 t.1) c.in-Some.ensures.items in
    let small = c.requires.small t.0 t.1 in
    let more : length c.push-in-Some.new.self.items ≡ length c.loop-next.nodes.items + 1 = search rules in
    omega (arith, few, small, more)

pub loop-next-preserved : goal.loop-next-preserved
loop-next-preserved c = (
  stack_below (length c.args.self.now) c.loop-next.stack.items c.pop.new.self.items c.stack_up.new.stack.items c.in-Some.next c.children-children.result.now c.loop-next.invariant.0 c.in-Some.ensures.items c.children-children.ensures.low
      c.in_ok-stack_up.ensures,
  λ t a. remains_next c.args.self.now t c.loop-next.stack.items c.pop.new.self.items c.stack_up.new.stack.items c.loop-next.nodes.items c.push-in-Some.new.self.items c.in-Some.next c.label.result (length c.children-children.result.now)
      c.children-children.result.now (c.loop-next.invariant.1 t a) c.in-Some.ensures.items c.label.ensures.value c.children-children.ensures.value refl c.in_ok-push-2.ensures.items c.in_ok-stack_up.ensures,
)

pub returns : goal.returns
returns c t a =
    remains_none c.args.self.now t c.loop-next.stack.items c.loop-next.nodes.items (c.loop-next.invariant.1 t a) (search rules)
