use Rattle.std.proofs.Common.{length}
use Rattle.tib_apply.proofs.MappedSides.{ends_within, settled_reads, settled_positions}
use Rattle.tib_apply.proofs.expand_backward.BackwardExpand.settle.Goals as goal

pub place_ends-requires : goal.place_ends-requires
place_ends-requires g c = ends_within c.args.rule.now c.requires.0 (length c.args.ends.now) c.requires.1

pub returns-clause-read : goal.returns-clause-read
returns-clause-read g c at = settled_reads c.args.rule.now c.args.ends.now c.in_ok-right.right c.in_ok-right.ensures at

pub returns-clause-positions : goal.returns-clause-positions
returns-clause-positions g c = settled_positions c.args.rule.now c.args.ends.now c.in_ok-right.right c.in_ok-right.ensures
