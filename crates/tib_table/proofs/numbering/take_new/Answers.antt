use Rattle.std.proofs.Common.{arith}
use Rattle.tib_table.proofs.numbering.take_new.Goals as goal

pub loop-keys-smaller : goal.loop-keys-smaller
loop-keys-smaller g c = let a = c.in-Some.ensures.len in omega arith
