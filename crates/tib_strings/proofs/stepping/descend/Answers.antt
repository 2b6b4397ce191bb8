use Rattle.std.proofs.Common.{arith, ap, ◌∙◌, ◌≡◌, ◌+◌, length, true, false}
use Rattle.tib_strings.proofs.Searching.{goes_with, stuck}
use Rattle.tib_strings.proofs.stepping.descend.Goals as goal

pub returns-then-not-branch : goal.returns-then-not-branch
returns-then-not-branch c j b =
    let no : c.in_ok-go_on.field-0 ≡ false = c.if-not-branch.true in
    let old = c.loop-places.places.items in
    let new = c.go_on.new.places.items in
    let g = goes_with c.args.string.now c.args.tokens.now c.args.from j old new c.in_ok-go_on.field-0 false no (c.in_ok-go_on.ensures.goes j b) in (
      omega (arith, ap length g.0, c.loop-places.invariant.begun),
      stuck c.args.string.now c.args.tokens.now c.args.from j c.args.places.now.items old new (c.loop-places.invariant.same j b) g,
    )

pub loop-places-smaller : goal.loop-places-smaller
loop-places-smaller c =
    let yes : c.in_ok-go_on.field-0 ≡ true = c.if-not-branch.false in
    let more : length c.go_on.new.places.items ≡ length c.loop-places.places.items + 1 = c.in_ok-go_on.ensures.longer yes in
    omega (arith, more, c.loop-places-test.true, c.len.ensures, c.loop-places.places.ok.0)

pub loop-places-preserved : goal.loop-places-preserved
loop-places-preserved c =
    let yes : c.in_ok-go_on.field-0 ≡ true = c.if-not-branch.false in
    let old = c.loop-places.places.items in
    let new = c.go_on.new.places.items in
    let more : length new ≡ length old + 1 = c.in_ok-go_on.ensures.longer yes in
    record {
      begun = omega (arith, more, c.loop-places-test.true, c.len.ensures, c.loop-places.places.ok.0);
      same = λ j b. c.loop-places.invariant.same j b ∙ (goes_with c.args.string.now c.args.tokens.now c.args.from j old new c.in_ok-go_on.field-0 true yes (c.in_ok-go_on.ensures.goes j b)).1;
    }
