use Rattle.std.proofs.Common.{◌+◌, length, arith, sym, ap}
use Rattle.std.proofs.lemmas.List.{take_all}
use Rattle.tib_grammar.specs.Items.{holes_in}
use Rattle.tib_match.proofs.StackedItems.{holes_taken, holes_some, nothing_left, something_left}
use Rattle.tib_match.proofs.hole_cost.is_each_priced.Goals as goal

pub loop-item-preserved : goal.loop-item-preserved
loop-item-preserved g c = omega (arith, c.loop-item.invariant, c.holes_at-own.ensures, c.if-own-left.false, holes_taken c.args.items.now c.loop-item.item-index c.item-item.result c.loop-item-test.true (sym c.item-item.is))

pub returns-then-own-left-clause-no : goal.returns-then-own-left-clause-no
returns-then-own-left-clause-no g c = λ f e.
    omega (
      arith,
      e,
      c.loop-item.invariant,
      c.holes_at-own.ensures,
      c.if-own-left.true,
      holes_taken c.args.items.now c.loop-item.item-index c.item-item.result c.loop-item-test.true (sym c.item-item.is),
      holes_some c.args.items.now (c.loop-item.item-index + 1),
    )

pub returns-clause-yes : goal.returns-clause-yes
returns-clause-yes g c = λ t.
    let whole = ap (λ xs. length (holes_in xs)) (take_all c.loop-item.item-index c.args.items.now c.loop-item-test.false) in
    omega (arith, nothing_left c.loop-item.left t, c.loop-item.invariant, whole)

pub returns-clause-no : goal.returns-clause-no
returns-clause-no g c = λ f e.
    let whole = ap (λ xs. length (holes_in xs)) (take_all c.loop-item.item-index c.args.items.now c.loop-item-test.false) in
    something_left c.loop-item.left f (omega (arith, e, c.loop-item.invariant, whole))
