use Rattle.std.proofs.Common.{length, ◌+◌, ◌≤◌, ◌≡◌}
use Rattle.tib_normal.specs.Closure.{IsClear}
use Rattle.tib_normal.specs.Gathered.{AreGathered, row_parts}
use Rattle.tib_normal.proofs.spread.gather.Given as goal
use Rattle.tib_lex.specs.Lists.{total}
use Rattle.tib_grammar.specs.ShapeBuckets.{lists_of}

abbrev pub invariant-loop-side : goal.invariant-loop-side
invariant-loop-side g l = record {
  within : l.side ≤ length l.sides.table.keys;
  long : length l.spread.costs.items ≡ l.states;
  clear : IsClear l.spread;
  gathered : AreGathered g.S.Semiring.product l.rules l.sides.numbers.items l.side (length l.sides.table.keys) l.states l.made.rows.items;
  parts : l.made.parts ≡ l.fn.made.parts + total (row_parts (lists_of l.sides.table.keys)) l.made.rows.items;
  limit : l.made.limit ≡ l.fn.made.limit;
}

abbrev pub decreases-loop-side : goal.decreases-loop-side
decreases-loop-side g l = l.side
