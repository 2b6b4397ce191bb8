use Rattle.std.proofs.Common.{◌≡◌, ◌<◌, ◌+◌, ◌-◌, ◌∷◌, [], ℕ, length, take, drop, arith, ap, sym, ◌∙◌, subst}
use Rattle.std.proofs.lemmas.List.{take_all, length-drop}
use Rattle.tib_grammar.specs.Items.{pair_of, pairs_of, holes_in}
use Rattle.tib_match.specs.Counting.{AreCounted, HasAlong, plenties_of}
use Rattle.tib_match.proofs.BoxSteps.{item_more}
use Rattle.tib_match.proofs.CountedLists.{none_stacked, some_weaker}
use Rattle.tib_match.proofs.StackedItems.{none_waits, all_before, item_room, item_waits, holes_left, holes_before}
use Rattle.tib_match.proofs.counting.count_lists.Goals as goal

pub loop-i-init : goal.loop-i-init
loop-i-init g c = record {
  within = omega arith;
  waiting = ap length c.new-columns.ensures.items ∙ none_waits c.args.items.now;
  before = all_before c.args.items.now (length c.args.costs.now) c.requires.costs;
  columns = none_stacked g.met.S.Semiring.laws c.args.normal.now.rules c.args.items.now c.args.costs.now c.new-columns.result.items (ap length c.new-columns.ensures.items);
}

pub stack_item-requires-clause-room : goal.stack_item-requires-clause-room
stack_item-requires-clause-room g c =
    let i : ℕ = c.loop-i.i - 1 in
    let items = c.args.items.now in
    let low : i < length items = omega (arith, c.loop-i.invariant.within, c.loop-i-test.true) in
    let behind : i + 1 ≡ c.loop-i.i = omega (arith, c.loop-i-test.true) in
    item_room items i c.loop-i.i c.index-items-i.result behind low (sym c.index-items-i.is) (length c.loop-i.columns.items) c.requires.nested c.loop-i.invariant.waiting

pub stack_item-requires-clause-some : goal.stack_item-requires-clause-some
stack_item-requires-clause-some g c =
    let i : ℕ = c.loop-i.i - 1 in
    let items = c.args.items.now in
    let low : i < length items = omega (arith, c.loop-i.invariant.within, c.loop-i-test.true) in
    let behind : i + 1 ≡ c.loop-i.i = omega (arith, c.loop-i-test.true) in
    holes_left items i c.loop-i.i c.index-items-i.result behind low (sym c.index-items-i.is) c.loop-i.holes c.loop-i.invariant.before

pub loop-i-preserved : goal.loop-i-preserved
loop-i-preserved g c =
    let product = g.S.Semiring.product in
    let grammar = c.args.normal.now.rules in
    let i : ℕ = c.loop-i.i - 1 in
    let items = c.args.items.now in
    let costs = c.args.costs.now in
    let low : i < length items = omega (arith, c.loop-i.invariant.within, c.loop-i-test.true) in
    let behind : i + 1 ≡ c.loop-i.i = omega (arith, c.loop-i-test.true) in
    let rest : take (length items - (i + 1)) (drop (i + 1) items) ≡ drop (i + 1) items = take_all (length items - (i + 1)) (drop (i + 1) items) (omega (arith, length-drop (i + 1) items)) in
    let left = c.in_ok-holes.holes in
    let old = subst (λ xs. AreCounted product grammar (pairs_of xs) (drop c.loop-i.holes costs) c.loop-i.columns.items) (ap (λ k. drop k items) (sym behind) ∙ sym rest) c.loop-i.invariant.columns in
    record {
      within = omega (arith, low);
      waiting = item_waits items i c.loop-i.i c.index-items-i.result behind low (sym c.index-items-i.is) (length c.loop-i.columns.items) (length c.stack_item.new.columns.items) c.loop-i.invariant.waiting c.in_ok-holes.ensures.many;
      before = holes_before items i c.loop-i.i c.index-items-i.result behind low (sym c.index-items-i.is) c.loop-i.holes left c.loop-i.invariant.before c.in_ok-holes.ensures.left;
      columns = subst (λ xs. AreCounted product grammar xs (drop left costs) c.stack_item.new.columns.items) (ap (λ xs. pair_of c.index-items-i.result ∷ pairs_of xs) rest ∙ sym (item_more items i c.index-items-i.result low (sym c.index-items-i.is)))
          (c.in_ok-holes.ensures.columns old);
    }

pub returns : goal.returns
returns g c =
    let product = g.S.Semiring.product in
    let grammar = c.args.normal.now.rules in
    let items = c.args.items.now in
    let costs = c.args.costs.now in
    let none : c.loop-i.i ≡ 0 = omega (arith, c.loop-i-test.false) in
    let all : c.loop-i.holes + length (holes_in items) ≡ length (holes_in items) = subst (λ k. c.loop-i.holes + length (holes_in (drop k items)) ≡ length (holes_in items)) none c.loop-i.invariant.before in
    let no_hole : c.loop-i.holes ≡ 0 = omega (arith, all) in
    let counted = subst (λ k. AreCounted product grammar (pairs_of items) (drop k costs) c.loop-i.columns.items) no_hole
    (subst (λ k. AreCounted product grammar (pairs_of (drop k items)) (drop c.loop-i.holes costs) c.loop-i.columns.items) none c.loop-i.invariant.columns)
    in
    some_weaker c.plenty_along.result _ _
    (λ p h. counted (c.args.state ∷ []) p.count p.worst (subst (λ cs. HasAlong product (plenties_of cs) (c.args.state ∷ []) p.count p.worst) c.deref.ensures.value h))
    c.plenty_along.ensures
