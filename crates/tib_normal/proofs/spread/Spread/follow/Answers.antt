use Rattle.std.proofs.Common.{arith, sym, subst, ◌∙◌, refl, get_or, length, ◌+◌, ◌<◌}
use Rattle.std.specs.Prelude.{None}
use Rattle.tib_normal.specs.Closure.{IsClosing, Spreads}
use Rattle.tib_normal.specs.Gathered.{HaveMoreParts}
use Rattle.tib_normal.specs.Links.{AreLinks}
use Rattle.tib_normal.specs.Rows.{IfTooMany}
use Rattle.tib_normal.proofs.Forming.{if_many}
use Rattle.tib_normal.proofs.Closing.{begun}
use Rattle.tib_normal.proofs.Gathering.{entry-below, following-start, followed, followed-many, gathering-end}
use Rattle.tib_normal.proofs.Rowing.{key-parts}
use Rattle.tib_normal.proofs.spread.Spread.follow.Goals as goal
use Rattle.tib_grammar.specs.Range.{AreBelow}
use Rattle.tib_grammar.specs.ShapeBuckets.{lists_of}

pub add_lefts-requires : goal.add_lefts-requires
add_lefts-requires g c = record {
  links = (
    c.args.sides.now.numbers.items,
    c.requires.ways.long,
    subst (λ n. AreLinks c.args.sides.now.numbers.items n c.args.ways.now.with_side) (sym c.requires.ways.sources.keys_long) c.requires.ways.sources,
  );
  below = omega (arith, c.requires.side, c.requires.ways.sources.keys_long);
}

pub loop-entry-init : goal.loop-entry-init
loop-entry-init g c = record {
  following =
      following-start g.met.S.Semiring.laws c.args.rules.now c.args.sides.now.numbers.items c.args.side (length c.args.sides.now.table.keys) (length c.args.self.now.costs.items) (lists_of c.args.sides.now.table.keys) c.args.made.now.rows.items c.args.made.now.parts (record { agenda = c.add_lefts.new.agenda; costs = c.args.self.now.costs; reached = c.args.self.now.reached })
      c.requires.clear.costs c.requires.clear.list refl
      (begun g.met.S.Semiring.laws c.args.rules.now c.args.sides.now.numbers.items c.args.side (λ r. get_or c.args.self.now.costs.items r None) c.args.self.now.agenda c.add_lefts.new.agenda c.requires.clear.costs c.requires.clear.waiting
      (subst (λ d. Spreads g.S.Semiring.product c.args.rules.now c.args.sides.now.numbers.items c.args.side d (length c.args.rules.now) c.args.self.now.agenda c.add_lefts.new.agenda) c.one.ensures
      (c.in_ok-add_lefts.ensures c.args.sides.now.numbers.items c.requires.ways.long
      (subst (λ n. AreLinks c.args.sides.now.numbers.items n c.args.ways.now.with_side) (sym c.requires.ways.sources.keys_long) c.requires.ways.sources)))) c.requires.gathered;
  limit = refl;
}

pub visit-requires-clause-links : goal.visit-requires-clause-links
visit-requires-clause-links g c = (
  c.requires.ways.ends,
  c.requires.ways.are_ends.long,
  subst (λ n. AreLinks c.requires.ways.ends n c.args.ways.now.to_state) (sym c.requires.ways.chains.keys_long) c.requires.ways.chains,
)

pub visit-requires-clause-below : goal.visit-requires-clause-below
visit-requires-clause-below g c =
    omega (
      arith,
      c.requires.ways.chains.keys_long,
      entry-below g.met.S.Semiring.laws c.args.rules.now c.args.sides.now.numbers.items c.args.side (length c.args.sides.now.table.keys) (length c.args.self.now.costs.items) (lists_of c.args.sides.now.table.keys) c.args.made.now.rows.items c.args.made.now.parts c.loop-entry.self c.loop-entry.made.rows.items c.loop-entry.made.parts c.requires.range c.loop-entry.invariant.following
          c.in-Some-pop.entry c.in-Some-pop.ensures.some.held,
    )

pub visit-requires-clause-long : goal.visit-requires-clause-long
visit-requires-clause-long g c = c.loop-entry.invariant.following.long ∙ sym c.requires.ways.chains.keys_long

pub returns-in-Err-clause-many : goal.returns-in-Err-clause-many
returns-in-Err-clause-many g c =
    subst (λ n. IfTooMany c.in-Err.error n (HaveMoreParts g.S.Semiring.product c.args.rules.now c.args.sides.now.numbers.items (length c.args.sides.now.table.keys) (length c.args.self.now.costs.items) (lists_of c.args.sides.now.table.keys) c.args.made.now.rows.items c.args.made.now.parts n)) c.loop-entry.invariant.limit
    (if_many c.in-Err.error c.loop-entry.made.limit (c.loop-entry.made.limit < c.loop-entry.made.parts + (1 + c.len.result)) (HaveMoreParts g.S.Semiring.product c.args.rules.now c.args.sides.now.numbers.items (length c.args.sides.now.table.keys) (length c.args.self.now.costs.items) (lists_of c.args.sides.now.table.keys) c.args.made.now.rows.items c.args.made.now.parts c.loop-entry.made.limit)
    (followed-many g.met.S.Semiring.laws c.args.rules.now c.args.sides.now.numbers.items c.args.side (length c.args.sides.now.table.keys) (length c.args.self.now.costs.items) (lists_of c.args.sides.now.table.keys)
    c.args.made.now.rows.items c.args.made.now.parts (1 + c.len.result) (omega (arith, key-parts c.args.sides.now.table.keys c.args.side c.in-Some.key.now c.requires.full (sym c.in-Some.ensures.key), c.len.ensures, c.in-Some.key.now.ok.0))
    (omega (arith, c.requires.few)) c.requires.side c.requires.ways.ends c.requires.ways.are_ends c.loop-entry.self c.visit.new.self c.in-Some-pop.entry c.pop.new.self c.in-Some-pop.ensures.some
    (entry-below g.met.S.Semiring.laws c.args.rules.now c.args.sides.now.numbers.items c.args.side (length c.args.sides.now.table.keys) (length c.args.self.now.costs.items) (lists_of c.args.sides.now.table.keys) c.args.made.now.rows.items c.args.made.now.parts c.loop-entry.self c.loop-entry.made.rows.items c.loop-entry.made.parts c.requires.range c.loop-entry.invariant.following c.in-Some-pop.entry c.in-Some-pop.ensures.some.held)
    c.loop-entry.made.rows.items c.visit.new.made.rows.items c.loop-entry.made.parts c.visit.new.made.parts c.loop-entry.invariant.following
    c.loop-entry.made.limit c.in-Err.ensures.unknown) c.in-Err.ensures.many)

pub loop-entry-preserved : goal.loop-entry-preserved
loop-entry-preserved g c =
    let all = followed g.met.S.Semiring.laws c.args.rules.now c.args.sides.now.numbers.items c.args.side (length c.args.sides.now.table.keys) (length c.args.self.now.costs.items) (lists_of c.args.sides.now.table.keys)
    c.args.made.now.rows.items c.args.made.now.parts (1 + c.len.result) (omega (arith, key-parts c.args.sides.now.table.keys c.args.side c.in-Some.key.now c.requires.full (sym c.in-Some.ensures.key), c.len.ensures, c.in-Some.key.now.ok.0))
    (omega (arith, c.requires.few)) c.requires.side c.requires.ways.ends c.requires.ways.are_ends c.loop-entry.self c.visit.new.self c.in-Some-pop.entry c.pop.new.self c.in-Some-pop.ensures.some
    (entry-below g.met.S.Semiring.laws c.args.rules.now c.args.sides.now.numbers.items c.args.side (length c.args.sides.now.table.keys) (length c.args.self.now.costs.items) (lists_of c.args.sides.now.table.keys) c.args.made.now.rows.items c.args.made.now.parts c.loop-entry.self c.loop-entry.made.rows.items c.loop-entry.made.parts c.requires.range c.loop-entry.invariant.following c.in-Some-pop.entry c.in-Some-pop.ensures.some.held)
    c.loop-entry.made.rows.items c.visit.new.made.rows.items c.loop-entry.made.parts c.visit.new.made.parts c.loop-entry.invariant.following
    (c.in-Ok.ensures.visits c.requires.ways.ends c.requires.ways.are_ends.long (subst (λ n. AreLinks c.requires.ways.ends n c.args.ways.now.to_state) (sym c.requires.ways.chains.keys_long) c.requires.ways.chains))
    in
    record { following = all.following; limit = c.visit.ensures.limit ∙ c.loop-entry.invariant.limit }

pub loop-entry-smaller : goal.loop-entry-smaller
loop-entry-smaller g c =
    let all = followed g.met.S.Semiring.laws c.args.rules.now c.args.sides.now.numbers.items c.args.side (length c.args.sides.now.table.keys) (length c.args.self.now.costs.items) (lists_of c.args.sides.now.table.keys)
    c.args.made.now.rows.items c.args.made.now.parts (1 + c.len.result) (omega (arith, key-parts c.args.sides.now.table.keys c.args.side c.in-Some.key.now c.requires.full (sym c.in-Some.ensures.key), c.len.ensures, c.in-Some.key.now.ok.0))
    (omega (arith, c.requires.few)) c.requires.side c.requires.ways.ends c.requires.ways.are_ends c.loop-entry.self c.visit.new.self c.in-Some-pop.entry c.pop.new.self c.in-Some-pop.ensures.some
    (entry-below g.met.S.Semiring.laws c.args.rules.now c.args.sides.now.numbers.items c.args.side (length c.args.sides.now.table.keys) (length c.args.self.now.costs.items) (lists_of c.args.sides.now.table.keys) c.args.made.now.rows.items c.args.made.now.parts c.loop-entry.self c.loop-entry.made.rows.items c.loop-entry.made.parts c.requires.range c.loop-entry.invariant.following c.in-Some-pop.entry c.in-Some-pop.ensures.some.held)
    c.loop-entry.made.rows.items c.visit.new.made.rows.items c.loop-entry.made.parts c.visit.new.made.parts c.loop-entry.invariant.following
    (c.in-Ok.ensures.visits c.requires.ways.ends c.requires.ways.are_ends.long (subst (λ n. AreLinks c.requires.ways.ends n c.args.ways.now.to_state) (sym c.requires.ways.chains.keys_long) c.requires.ways.chains))
    in
    all.smaller

pub forget-requires : goal.forget-requires
forget-requires g c = record {
  below = subst (λ n. AreBelow n c.loop-entry.self.reached.items) (sym c.loop-entry.invariant.following.long) c.loop-entry.invariant.following.below;
  listed = c.loop-entry.invariant.following.listed;
  waiting = c.in_default.ensures.empty;
}

pub returns-clause-gathered : goal.returns-clause-gathered
returns-clause-gathered g c =
    gathering-end g.met.S.Semiring.laws c.args.rules.now c.args.sides.now.numbers.items c.args.side (length c.args.sides.now.table.keys) (length c.args.self.now.costs.items) (λ r. get_or c.loop-entry.self.costs.items r None) c.loop-entry.made.rows.items
    (subst (λ es. IsClosing g.S.Semiring.product c.args.rules.now c.args.sides.now.numbers.items c.args.side (λ r. get_or c.loop-entry.self.costs.items r None) es) c.in_default.ensures.none c.loop-entry.invariant.following.closing)
    c.loop-entry.invariant.following.gathering

pub returns-clause-parts : goal.returns-clause-parts
returns-clause-parts g c = c.loop-entry.invariant.following.sum

pub returns-clause-long : goal.returns-clause-long
returns-clause-long g c = c.forget.ensures.long ∙ c.loop-entry.invariant.following.long
