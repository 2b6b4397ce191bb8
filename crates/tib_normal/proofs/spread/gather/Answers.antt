use Rattle.std.proofs.Common.{arith, ap, refl, [], sym, subst, ◌≡◌, ◌∙◌, length, ◌+◌, ◌-◌}
use Rattle.tib_grammar.specs.Range.{AreInRange}
use Rattle.tib_normal.specs.Gathered.{AreGathered, HaveMoreParts, row_parts}
use Rattle.tib_normal.specs.Rows.{IfTooMany}
use Rattle.tib_normal.specs.Ways.{AreWays}
use Rattle.tib_normal.proofs.Forming.{if_many}
use Rattle.tib_normal.proofs.Gathering.{gathered-none, more-in-all}
use Rattle.tib_normal.proofs.spread.gather.Goals as goal
use Rattle.tib_lex.specs.Lists.{total}
use Rattle.tib_grammar.specs.ShapeBuckets.{lists_of}

pub loop-side-init : goal.loop-side-init
loop-side-init g c = record {
  within = omega (arith, c.len-side.ensures.len);
  long = c.in_ok-spread.ensures.long;
  clear = c.in_ok-spread.ensures.clear;
  gathered =
      gathered-none g.S.Semiring.product c.args.rules.now c.args.sides.now.numbers.items c.len-side.result (length c.args.sides.now.table.keys) c.args.states c.args.made.now.rows.items c.requires.none
      (omega (arith, c.len-side.ensures.len));
  parts = omega (arith, ap (total (row_parts (lists_of c.args.sides.now.table.keys))) c.requires.none);
  limit = refl;
}

pub follow-requires-clause-ways : goal.follow-requires-clause-ways
follow-requires-clause-ways g c =
    subst (λ n. AreWays c.args.rules.now c.args.sides.now.numbers.items (length c.args.sides.now.table.keys) n c.args.ways.now) (sym c.loop-side.invariant.long) c.requires.ways

pub follow-requires-clause-range : goal.follow-requires-clause-range
follow-requires-clause-range g c = subst (λ n. AreInRange n c.args.rules.now) (sym c.loop-side.invariant.long) c.requires.range

pub follow-requires-clause-gathered : goal.follow-requires-clause-gathered
follow-requires-clause-gathered g c =
    let one : c.loop-side.side ≡ c.loop-side.side - 1 + 1 = omega (arith, c.loop-side-test.true) in
    subst (λ n. AreGathered g.S.Semiring.product c.args.rules.now c.args.sides.now.numbers.items (c.loop-side.side - 1 + 1) (length c.args.sides.now.table.keys) n c.loop-side.made.rows.items) (sym c.loop-side.invariant.long)
    (subst (λ m. AreGathered g.S.Semiring.product c.args.rules.now c.args.sides.now.numbers.items m (length c.args.sides.now.table.keys) c.args.states c.loop-side.made.rows.items) one c.loop-side.invariant.gathered)

pub returns-in-Err-clause-many : goal.returns-in-Err-clause-many
returns-in-Err-clause-many g c =
    subst (λ n. IfTooMany c.in-Err.error n (HaveMoreParts g.S.Semiring.product c.args.rules.now c.args.sides.now.numbers.items (length c.args.sides.now.table.keys) c.args.states (lists_of c.args.sides.now.table.keys) [] c.args.made.now.parts n))
    c.loop-side.invariant.limit
    (subst (λ n. IfTooMany c.in-Err.error c.loop-side.made.limit (HaveMoreParts g.S.Semiring.product c.args.rules.now c.args.sides.now.numbers.items (length c.args.sides.now.table.keys) n (lists_of c.args.sides.now.table.keys) [] c.args.made.now.parts c.loop-side.made.limit))
    c.loop-side.invariant.long
    (if_many c.in-Err.error c.loop-side.made.limit
    (HaveMoreParts g.S.Semiring.product c.args.rules.now c.args.sides.now.numbers.items (length c.args.sides.now.table.keys) (length c.loop-side.spread.costs.items) (lists_of c.args.sides.now.table.keys) c.loop-side.made.rows.items c.loop-side.made.parts c.loop-side.made.limit)
    (HaveMoreParts g.S.Semiring.product c.args.rules.now c.args.sides.now.numbers.items (length c.args.sides.now.table.keys) (length c.loop-side.spread.costs.items) (lists_of c.args.sides.now.table.keys) [] c.args.made.now.parts c.loop-side.made.limit)
    (more-in-all g.S.Semiring.product c.args.rules.now c.args.sides.now.numbers.items (length c.args.sides.now.table.keys) (length c.loop-side.spread.costs.items) (lists_of c.args.sides.now.table.keys) c.loop-side.made.rows.items c.args.made.now.parts
    c.loop-side.made.parts c.loop-side.made.limit c.loop-side.invariant.parts) c.in-Err.ensures.many))

pub loop-side-preserved : goal.loop-side-preserved
loop-side-preserved g c = record {
  within = omega (arith, c.loop-side.invariant.within);
  long = c.in-Ok.ensures.long ∙ c.loop-side.invariant.long;
  clear = c.in-Ok.ensures.clear;
  gathered = subst (λ n. AreGathered g.S.Semiring.product c.args.rules.now c.args.sides.now.numbers.items (c.loop-side.side - 1) (length c.args.sides.now.table.keys) n c.follow.new.made.rows.items) c.loop-side.invariant.long
      c.in-Ok.ensures.gathered;
  parts = omega (arith, c.in-Ok.ensures.parts, c.loop-side.invariant.parts);
  limit = c.follow.ensures.limit ∙ c.loop-side.invariant.limit;
}

pub returns-clause-gathered : goal.returns-clause-gathered
returns-clause-gathered g c =
    subst (λ n. AreGathered g.S.Semiring.product c.args.rules.now c.args.sides.now.numbers.items n (length c.args.sides.now.table.keys) c.args.states c.loop-side.made.rows.items) (omega (arith, c.loop-side-test.false))
    c.loop-side.invariant.gathered
