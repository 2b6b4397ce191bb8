use Rattle.std.proofs.Common.{◌≡◌, ◌+◌, ◌-◌, [], take}
use Rattle.tib_hunt.specs.Held.{IsBetween}
use Rattle.tib_expand.specs.Reached.{most_parts}
use Rattle.tib_hunt.proofs.hunts.hunt_together.Given as goal

abbrev pub invariant-loop-first : goal.invariant-loop-first
invariant-loop-first g l = record {
  between : IsBetween (g.E.Expand.hunted l.problem) (g.E.Expand.admits l.problem) g.E.Expand.reading l.first l.state.keys.keys l.state.rules.items l.state.parts l.limit;
  rows : l.state.rows.items ≡ [];
  indexed : g.E.Expand.indexes l.problem (take l.first l.state.keys.keys) l.index;
}

abbrev pub decreases-loop-first : goal.decreases-loop-first
decreases-loop-first g l = (most_parts + 1) - l.first
