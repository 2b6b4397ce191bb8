use Rattle.std.proofs.Common.{ℕ, arith, length}
use Rattle.tib_key_edges.proofs.Settled.{ends_there, settled_reads, settled_positions}
use Rattle.tib_image.proofs.parse.expand.ParseExpand.settle.Goals as goal

pub settled_side-requires : goal.settled_side-requires
settled_side-requires g c = (omega arith, λ h. ends_there c.args.rule.now c.requires.0 (length c.args.ends.now) c.requires.1 h)

pub returns-clause-read : goal.returns-clause-read
returns-clause-read g c at = settled_reads c.args.rule.now c.args.ends.now c.in_ok-right.right c.in_ok-right.ensures at

pub returns-clause-positions : goal.returns-clause-positions
returns-clause-positions g c = settled_positions c.args.rule.now c.args.ends.now c.in_ok-right.right c.in_ok-right.ensures (ℕ × ℕ × ℕ × ℕ)
