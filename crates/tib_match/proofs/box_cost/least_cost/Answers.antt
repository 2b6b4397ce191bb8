use Rattle.std.proofs.Common.{◌≡◌, ◌<◌, ◌+◌, ◌-◌, ◌∷◌, [], ℕ, length, drop, arith, ap, sym, ◌∙◌, subst}
use Rattle.tib_cost.specs.Least.{IsLeast}
use Rattle.tib_grammar.specs.Items.{pair_of, pairs_of, holes_in}
use Rattle.tib_match.specs.Boxes.{cost_along, stack_of, all_spanned, IsReadBox, AreColumns}
use Rattle.tib_match.proofs.BoxSteps.{none_stacked, item_more}
use Rattle.tib_match.proofs.StackedItems.{none_waits, all_before, item_room, item_waits, holes_left, holes_before}
use Rattle.tib_match.proofs.box_cost.least_cost.Goals as goal

pub loop-i-init : goal.loop-i-init
loop-i-init g c = record {
  within = omega arith;
  waiting = ap length c.new-columns.ensures.items ∙ none_waits c.args.items.now;
  before = all_before c.args.items.now (length c.args.costs.now) c.requires.costs;
  columns = none_stacked g.met.S.Semiring.laws c.args.normal.now.rules c.args.items.now c.args.spans.now c.args.costs.now c.new-columns.result.items (ap length c.new-columns.ensures.items);
}

pub stack_item-requires-clause-room : goal.stack_item-requires-clause-room
stack_item-requires-clause-room g c =
    let i : ℕ = c.loop-i.i - 1 in
    let items = c.args.items.now in
    let low : i < length items = omega (arith, c.loop-i.invariant.within, c.loop-i-test.true) in
    let behind : i + 1 ≡ c.loop-i.i = omega (arith, c.loop-i-test.true) in
    item_room items i c.loop-i.i c.index-items-i.result behind low (sym c.index-items-i.is) (length c.loop-i.columns.items) c.requires.nested c.loop-i.invariant.waiting

pub stack_item-requires-clause-some : goal.stack_item-requires-clause-some
stack_item-requires-clause-some g c =
    let i : ℕ = c.loop-i.i - 1 in
    let items = c.args.items.now in
    let low : i < length items = omega (arith, c.loop-i.invariant.within, c.loop-i-test.true) in
    let behind : i + 1 ≡ c.loop-i.i = omega (arith, c.loop-i-test.true) in
    holes_left items i c.loop-i.i c.index-items-i.result behind low (sym c.index-items-i.is) c.loop-i.holes c.loop-i.invariant.before

pub loop-i-preserved : goal.loop-i-preserved
loop-i-preserved g c =
    let i : ℕ = c.loop-i.i - 1 in
    let items = c.args.items.now in
    let low : i < length items = omega (arith, c.loop-i.invariant.within, c.loop-i-test.true) in
    let behind : i + 1 ≡ c.loop-i.i = omega (arith, c.loop-i-test.true) in
    let more = item_more items i c.index-items-i.result low (sym c.index-items-i.is) ∙ ap (λ k. pair_of c.index-items-i.result ∷ pairs_of (drop k items)) behind in
    let left = c.in_ok-holes.holes in
    record {
      within = omega (arith, low);
      waiting = item_waits items i c.loop-i.i c.index-items-i.result behind low (sym c.index-items-i.is) (length c.loop-i.columns.items) (length c.stack_item.new.columns.items) c.loop-i.invariant.waiting c.in_ok-holes.ensures.many;
      before = holes_before items i c.loop-i.i c.index-items-i.result behind low (sym c.index-items-i.is) c.loop-i.holes left c.loop-i.invariant.before c.in_ok-holes.ensures.left;
      columns = subst (λ xs. AreColumns g.S.Semiring.product c.args.normal.now.rules xs (all_spanned (drop left c.args.spans.now) (drop left c.args.costs.now)) c.stack_item.new.columns.items) (sym more)
          (c.in_ok-holes.ensures.columns (pairs_of (drop c.loop-i.i items)) c.loop-i.invariant.columns);
    }

pub returns : goal.returns
returns g c =
    let product = g.S.Semiring.product in
    let items = c.args.items.now in
    let none : c.loop-i.i ≡ 0 = omega (arith, c.loop-i-test.false) in
    let all : c.loop-i.holes + length (holes_in items) ≡ length (holes_in items) = subst (λ k. c.loop-i.holes + length (holes_in (drop k items)) ≡ length (holes_in items)) none c.loop-i.invariant.before in
    let no_hole : c.loop-i.holes ≡ 0 = omega (arith, all) in
    let qs = c.args.state ∷ [] in
    let least = subst (λ k. IsLeast (IsReadBox product c.args.normal.now.rules (pairs_of items) qs (all_spanned (drop k c.args.spans.now) (drop k c.args.costs.now))) (cost_along product (stack_of c.loop-i.columns.items) qs)) no_hole
    (subst (λ k. IsLeast (IsReadBox product c.args.normal.now.rules (pairs_of (drop k items)) qs (all_spanned (drop c.loop-i.holes c.args.spans.now) (drop c.loop-i.holes c.args.costs.now))) (cost_along product (stack_of c.loop-i.columns.items) qs)) none
    (c.loop-i.invariant.columns qs))
    in
    subst (IsLeast (IsReadBox product c.args.normal.now.rules (pairs_of items) qs (all_spanned c.args.spans.now c.args.costs.now)))
    (sym (c.product_along.ensures ∙ ap (λ cs. cost_along product (stack_of cs) qs) c.deref.ensures.value)) least
