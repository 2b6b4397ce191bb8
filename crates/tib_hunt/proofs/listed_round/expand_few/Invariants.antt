use Rattle.std.proofs.Common.{map}
use Rattle.tib_hunt.specs.Held.{IsWithinRound}
use Rattle.tib_hunt.specs.Rows.{numbered}
use Rattle.tib_hunt.proofs.listed_round.expand_few.Given as goal

abbrev pub invariant-loop-n : goal.invariant-loop-n
invariant-loop-n g l = IsWithinRound (g.E.Expand.hunted l.terms.problem.now) (g.E.Expand.admits l.terms.problem.now) g.E.Expand.reading l.fn.state.keys.keys l.first l.n l.state.keys.keys l.state.rules.items (map numbered l.state.rows.items) l.state.parts l.terms.limit
