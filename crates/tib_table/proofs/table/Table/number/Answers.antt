use Rattle.std.proofs.Common.{sym, subst}
use Rattle.tib_table.proofs.Passes.{is_about, out_of_turn, its_log, seated_after, table_after, known_after, named_after}
use Rattle.tib_table.proofs.table.Table.number.Goals as goal

pub number_in_turn-requires-clause-outside : goal.number_in_turn-requires-clause-outside
number_in_turn-requires-clause-outside g c =
    out_of_turn c.args.seats.now c.args.self.now (g.P.Problem.about c.seats.inside.problem) (g.P.Problem.about c.self.inside.problem) c.self.inside.locks.items c.seats.inside.passes.items c.self.view_is c.seats.view_is c.requires.table
    c.shelf-shelf.result c.index.result.now c.index_mut.result.now c.index_mut.result.now c.seats.invariant.1 c.seats.invariant.0 c.shelf-shelf.ensures.below c.index.ensures c.index_mut.ensures.value

pub number_in_turn-requires-clause-key : goal.number_in_turn-requires-clause-key
number_in_turn-requires-clause-key g c = (
  (g.P.Problem.about c.seats.inside.problem, c.shelf-shelf.result),
  its_log c.args.seats.now c.args.self.now (g.P.Problem.about c.seats.inside.problem) (g.P.Problem.about c.self.inside.problem) c.self.inside.locks.items c.seats.inside.passes.items c.self.view_is c.seats.view_is c.requires.table
      c.shelf-shelf.result c.index.result.now c.index_mut.result.now c.index_mut.result.now c.seats.invariant.1 c.seats.invariant.0 c.shelf-shelf.ensures.below c.index.ensures c.index_mut.ensures.value,
  subst (λ d. g.P.Problem.may_hold d c.args.key)
      (is_about c.args.seats.now c.args.self.now (g.P.Problem.about c.seats.inside.problem) (g.P.Problem.about c.self.inside.problem) c.self.inside.locks.items c.seats.inside.passes.items c.self.view_is c.seats.view_is c.requires.table)
      c.requires.key,
  sym c.shelf-shelf.ensures.named,
)

pub invariant_of-seats : goal.invariant_of-seats
invariant_of-seats g c =
    let e = c.number_in_turn.ensures in
    seated_after c.args.seats.now c.args.self.now (g.P.Problem.about c.seats.inside.problem) (g.P.Problem.about c.self.inside.problem) c.self.inside.locks.items c.seats.inside.passes.items c.self.view_is c.seats.view_is c.requires.table
    c.shelf-shelf.result c.index.result.now c.index_mut.result.now c.number_in_turn.new.pass c.seats.invariant.1 c.seats.invariant.0 c.shelf-shelf.ensures.below c.index.ensures c.index_mut.ensures.value e.lock e.outside e.log e.more

pub invariant_of-seats-2 : goal.invariant_of-seats-2
invariant_of-seats-2 g c =
    let e = c.number_in_turn.ensures in
    seated_after c.args.seats.now c.args.self.now (g.P.Problem.about c.seats.inside.problem) (g.P.Problem.about c.self.inside.problem) c.self.inside.locks.items c.seats.inside.passes.items c.self.view_is c.seats.view_is c.requires.table
    c.shelf-shelf.result c.index.result.now c.index_mut.result.now c.number_in_turn.new.pass c.seats.invariant.1 c.seats.invariant.0 c.shelf-shelf.ensures.below c.index.ensures c.index_mut.ensures.value e.lock e.outside e.log e.more

pub returns-in_err-place-clause-table : goal.returns-in_err-place-clause-table
returns-in_err-place-clause-table g c =
    let e = c.number_in_turn.ensures in
    table_after c.args.seats.now c.args.self.now (g.P.Problem.about c.seats.inside.problem) (g.P.Problem.about c.self.inside.problem) c.self.inside.locks.items c.seats.inside.passes.items c.self.view_is c.seats.view_is c.requires.table
    c.shelf-shelf.result c.index.result.now c.index_mut.result.now c.number_in_turn.new.pass c.seats.invariant.1 c.seats.invariant.0 c.shelf-shelf.ensures.below c.index.ensures c.index_mut.ensures.value e.lock e.outside e.log e.more

pub returns-in_err-place-clause-more : goal.returns-in_err-place-clause-more
returns-in_err-place-clause-more g c =
    let e = c.number_in_turn.ensures in
    known_after c.args.seats.now c.args.self.now (g.P.Problem.about c.seats.inside.problem) (g.P.Problem.about c.self.inside.problem) c.self.inside.locks.items c.seats.inside.passes.items c.self.view_is c.seats.view_is c.requires.table
    c.shelf-shelf.result c.index.result.now c.index_mut.result.now c.number_in_turn.new.pass c.seats.invariant.1 c.seats.invariant.0 c.shelf-shelf.ensures.below c.index.ensures c.index_mut.ensures.value e.lock e.outside e.log e.more

pub returns-clause-table : goal.returns-clause-table
returns-clause-table g c =
    let e = c.number_in_turn.ensures in
    table_after c.args.seats.now c.args.self.now (g.P.Problem.about c.seats.inside.problem) (g.P.Problem.about c.self.inside.problem) c.self.inside.locks.items c.seats.inside.passes.items c.self.view_is c.seats.view_is c.requires.table
    c.shelf-shelf.result c.index.result.now c.index_mut.result.now c.number_in_turn.new.pass c.seats.invariant.1 c.seats.invariant.0 c.shelf-shelf.ensures.below c.index.ensures c.index_mut.ensures.value e.lock e.outside e.log e.more

pub returns-clause-more : goal.returns-clause-more
returns-clause-more g c =
    let e = c.number_in_turn.ensures in
    known_after c.args.seats.now c.args.self.now (g.P.Problem.about c.seats.inside.problem) (g.P.Problem.about c.self.inside.problem) c.self.inside.locks.items c.seats.inside.passes.items c.self.view_is c.seats.view_is c.requires.table
    c.shelf-shelf.result c.index.result.now c.index_mut.result.now c.number_in_turn.new.pass c.seats.invariant.1 c.seats.invariant.0 c.shelf-shelf.ensures.below c.index.ensures c.index_mut.ensures.value e.lock e.outside e.log e.more

pub returns-clause-named : goal.returns-clause-named
returns-clause-named g c =
    let e = c.number_in_turn.ensures in
    named_after c.args.seats.now c.args.self.now (g.P.Problem.about c.seats.inside.problem) (g.P.Problem.about c.self.inside.problem) c.self.inside.locks.items c.seats.inside.passes.items c.self.view_is c.seats.view_is c.requires.table
    c.shelf-shelf.result c.index.result.now c.index_mut.result.now c.number_in_turn.new.pass c.seats.invariant.1 c.seats.invariant.0 c.shelf-shelf.ensures.below c.index.ensures c.index_mut.ensures.value e.lock e.outside e.log e.more c.in_ok-place.place c.args.key c.in_ok-place.ensures.named
