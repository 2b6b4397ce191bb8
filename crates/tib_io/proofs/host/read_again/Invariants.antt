use Rattle.std.specs.Io.KnownBytes.{Keeps}
use Rattle.tib_io.proofs.host.read_again.Given as goal

abbrev pub invariant-loop : goal.invariant-loop
invariant-loop g l = Keeps (g.D.Read.remaining l.fn.file) (g.D.Read.remaining l.file)
