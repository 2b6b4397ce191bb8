use Rattle.std.proofs.Common.{◌≤◌, ◌∙◌, ap, sym, subst, inl, List, ℕ, arith}
use Rattle.tib_cost.specs.Semiring.{most}
use Rattle.tib_cost.proofs.Times.{cut-some}
use Rattle.tib_apply.specs.Restrictions.{restricted_labels}
use Rattle.tib_apply.specs.BackwardLists.{edge_to}
use Rattle.tib_apply.specs.Listing.{AddsEdge}
use Rattle.tib_apply.proofs.BackwardEdges.{too_much}
use Rattle.tib_key_edges.proofs.MappedSides.{items_size}
use Rattle.tib_apply.proofs.backward.Backward.add_edge.Goals as goal

pub returns-then-parts-list-clause-more : goal.returns-then-parts-list-clause-more
returns-then-parts-list-clause-more g c e key =
    let within = subst (λ (m : List ℕ × ℕ). g.S.Semiring.product c.args.rule.now.cost m.1 ≤ most) c.found.view_is (cut-some _ _ (sym c.times.ensures ∙ c.in-Some.is)).1 in
    too_much (restricted_labels c.args.self.now.transducer.now.rules) key c.args.rule.now c.items.result.now c.args.found.now.0 (g.S.Semiring.product c.args.rule.now.cost c.args.found.now.1) c.args.list.now c.items.ensures.items
    within c.requires.within.within (omega (arith, c.if-parts-list.true, c.requires.within.within))

pub push_edge-requires-clause-room : goal.push_edge-requires-clause-room
push_edge-requires-clause-room g c = omega (arith, c.if-parts-list.false, c.requires.within.within, items_size c.items.result.now c.args.rule.now.left c.items.ensures.items)

pub returns-in-Ok-clause-next : goal.returns-in-Ok-clause-next
returns-in-Ok-clause-next g c key =
    let cost = sym (cut-some _ _ (sym c.times.ensures ∙ c.in-Some.is)).0 ∙ ap (λ (m : List ℕ × ℕ). g.S.Semiring.product c.args.rule.now.cost m.1) c.found.view_is in
    inl (subst (λ n. AddsEdge key (edge_to (restricted_labels c.args.self.now.transducer.now.rules) key c.args.rule.now c.args.found.now.0 n) c.args.list.now c.push_edge.new.list) cost (c.in-Ok.ensures.added key))
