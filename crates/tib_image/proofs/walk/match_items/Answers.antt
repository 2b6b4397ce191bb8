use Rattle.std.proofs.Common.{◌+◌, ◌++◌, ◌∷◌, [], ℕ, refl, arith, ap, sym, ◌∙◌, inl, inr, get_or}
use Rattle.std.specs.Global.{Vec}
use Rattle.tib_grammar.specs.declared.Item.TheVariants.{Label, Hole}
use Rattle.tib_image.specs.Walk.{with_nodes, walk}
use Rattle.tib_image.proofs.Walking.{next_pairs, stop-end, stop-label, stop-hole, step-label, step-hole, node_read, no_node, carried}
use Rattle.tib_image.proofs.walk.match_items.Goals as goal
use Rattle.tib_image.proofs.walk.match_items.Goals.{then-node-label-via-then-node-label, then-node-label-via-else-node-label+then-node-rank, in-Label+else-node-label+else-node-rank, in-Hole+else-not-binds_root+in_ok-push-in-Hole}

pub returns-in_default-clause-no : goal.returns-in_default-clause-no
returns-in_default-clause-no c = λ _.
    let left = c.args.left.now in
    let i = c.loop-item.item-index in
    sym c.loop-item.invariant
    ∙ ap (λ ps. with_nodes c.loop-item.found.items (walk ps c.args.nodes.now c.loop-item.next)) (next_pairs left i (Label 0 0) (get_or left i (Label 0 0)) c.loop-item-test.true refl)
    ∙ stop-end c.args.nodes.now c.loop-item.found.items c.loop-item.next _ _ (no_node c.args.nodes.now c.loop-item.next (omega (arith, c.in_default.ensures.lookup)))

pub returns-then-node-label-clause-no : goal.returns-then-node-label-clause-no
returns-then-node-label-clause-no c = λ _.
    let left = c.args.left.now in
    let i = c.loop-item.item-index in
    let at = node_read c.args.nodes.now c.loop-item.next c.in-Some.node.now c.in-Some.ensures.lookup.3.0 c.in-Some.ensures.lookup.1 in
    sym c.loop-item.invariant
    ∙ ap (λ ps. with_nodes c.loop-item.found.items (walk ps c.args.nodes.now c.loop-item.next)) (next_pairs left i (Label 0 0) (Label c.in-Label.label c.in-Label.rank) c.loop-item-test.true c.in-Label.is)
    ∙ stop-label c.args.nodes.now c.loop-item.found.items c.loop-item.next c.in-Label.label c.in-Label.rank _ c.in-Some.node.now at (elim c.then-node-label.branch [
      | then-node-label-via-then-node-label w ↦ inl (λ e. omega (arith, w.if-node-label.true, e))
      | then-node-label-via-else-node-label+then-node-rank w ↦ inr (λ e. omega (arith, w.if-node-rank.true, e))
    ])

pub returns-then-not-binds_root-clause-no : goal.returns-then-not-binds_root-clause-no
returns-then-not-binds_root-clause-no c = λ _.
    let left = c.args.left.now in
    let i = c.loop-item.item-index in
    let at = node_read c.args.nodes.now c.loop-item.next c.in-Some.node.now c.in-Some.ensures.lookup.3.0 c.in-Some.ensures.lookup.1 in
    sym c.loop-item.invariant
    ∙ ap (λ ps. with_nodes c.loop-item.found.items (walk ps c.args.nodes.now c.loop-item.next)) (next_pairs left i (Label 0 0) (Hole c.in-Hole.variable) c.loop-item-test.true c.in-Hole.is)
    ∙ stop-hole c.args.nodes.now c.loop-item.found.items c.loop-item.next 0 c.in-Hole.variable _ c.in-Some.node.now at (sym c.binds_root.ensures ∙ c.if-not-binds_root.true)

pub loop-item-preserved : goal.loop-item-preserved
loop-item-preserved c =
    let left = c.args.left.now in
    let i = c.loop-item.item-index in
    let at = node_read c.args.nodes.now c.loop-item.next c.in-Some.node.now c.in-Some.ensures.lookup.3.0 c.in-Some.ensures.lookup.1 in
    elim c.match-item.branch [
      | in-Label+else-node-label+else-node-rank w ↦
          carried c.args.nodes.now _ c.loop-item.found.items c.match-item.found.items (c.loop-item.next + 1) c.match-item.next (ap (λ (v : Vec ℕ). v.items) w.found-is) w.next-is
          ∙ sym (step-label c.args.nodes.now c.loop-item.found.items c.loop-item.next w.in-Label.label w.in-Label.rank _ c.in-Some.node.now at w.if-node-label.false w.if-node-rank.false)
          ∙ sym (ap (λ ps. with_nodes c.loop-item.found.items (walk ps c.args.nodes.now c.loop-item.next)) (next_pairs left i (Label 0 0) (Label w.in-Label.label w.in-Label.rank) c.loop-item-test.true w.in-Label.is))
          ∙ c.loop-item.invariant
      | in-Hole+else-not-binds_root+in_ok-push-in-Hole w ↦
          carried c.args.nodes.now _ (c.loop-item.found.items ++ c.loop-item.next ∷ []) c.match-item.found.items (c.loop-item.next + c.in-Some.node.now.size) c.match-item.next
          (ap (λ (v : Vec ℕ). v.items) w.found-is ∙ w.in_ok-push-in-Hole.ensures.items) w.next-is
          ∙ sym (step-hole c.args.nodes.now c.loop-item.found.items c.loop-item.next 0 w.in-Hole.variable _ c.in-Some.node.now at (sym w.binds_root.ensures ∙ w.if-not-binds_root.false))
          ∙ sym (ap (λ ps. with_nodes c.loop-item.found.items (walk ps c.args.nodes.now c.loop-item.next)) (next_pairs left i (Label 0 0) (Hole w.in-Hole.variable) c.loop-item-test.true w.in-Hole.is))
          ∙ c.loop-item.invariant
    ]
