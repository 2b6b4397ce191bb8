use Rattle.std.proofs.Common.{◌∙◌, ap, List, get_or}
use Rattle.tib_turn.specs.Seen.{Seen}
use Rattle.tib_table.specs.declared.problem.Entry.{Entry}
use Rattle.std.proofs.Common.{ℕ}
use Rattle.tib_table.proofs.Passes.{its_lock, out_of_turn}
use Rattle.tib_table.proofs.table.Table.split.Goals as goal

pub split-requires-clause-lock : goal.split-requires-clause-lock
split-requires-clause-lock g c =
    let here = c.index_mut.ensures.value ∙ ap (λ (l : List (Seen (Entry (g.row.P-Data.Denot × ℕ) g.row.P-Key.Denot))). get_or l c.loop-at.at c.index_mut.result.now) c.loop-at.invariant.1 in
    its_lock c.args.seats.now c.args.self.now (g.P.Problem.about c.seats.inside.problem) (g.P.Problem.about c.self.inside.problem) c.self.inside.locks.items c.seats.inside.passes.items c.self.view_is c.seats.view_is c.requires.table
    c.loop-at.at c.index.result.now c.index_mut.result.now c.index_mut.result.now c.seats.invariant.1 c.seats.invariant.0 c.loop-at-test.true c.index.ensures here

pub split-requires-clause-outside : goal.split-requires-clause-outside
split-requires-clause-outside g c =
    let here = c.index_mut.ensures.value ∙ ap (λ (l : List (Seen (Entry (g.row.P-Data.Denot × ℕ) g.row.P-Key.Denot))). get_or l c.loop-at.at c.index_mut.result.now) c.loop-at.invariant.1 in
    out_of_turn c.args.seats.now c.args.self.now (g.P.Problem.about c.seats.inside.problem) (g.P.Problem.about c.self.inside.problem) c.self.inside.locks.items c.seats.inside.passes.items c.self.view_is c.seats.view_is c.requires.table
    c.loop-at.at c.index.result.now c.index_mut.result.now c.index_mut.result.now c.seats.invariant.1 c.seats.invariant.0 c.loop-at-test.true c.index.ensures here
