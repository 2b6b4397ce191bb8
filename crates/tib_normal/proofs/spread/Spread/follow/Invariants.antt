use Rattle.std.proofs.Common.{length, ◌+◌, ◌*◌, ◌≡◌}
use Rattle.std.specs.Prelude.{sum_by}
use Rattle.tib_grammar.specs.ShapeBuckets.{lists_of}
use Rattle.tib_normal.specs.Entries.{unset}
use Rattle.tib_normal.proofs.Gathering.{IsFollowing}
use Rattle.tib_normal.proofs.spread.Spread.follow.Given as goal

abbrev pub invariant-loop-entry : goal.invariant-loop-entry
invariant-loop-entry g l = record {
  following :
      IsFollowing g.met.S.Semiring.laws l.rules l.sides.numbers.items l.side (length l.sides.table.keys) (length l.fn.self.costs.items) (lists_of l.sides.table.keys)
      l.fn.made.rows.items l.fn.made.parts l.self l.made.rows.items l.made.parts;
  limit : l.made.limit ≡ l.fn.made.limit;
}

abbrev pub decreases-loop-entry : goal.decreases-loop-entry
decreases-loop-entry g l = length l.self.agenda + sum_by unset l.self.costs.items * (length l.rules + 1)
