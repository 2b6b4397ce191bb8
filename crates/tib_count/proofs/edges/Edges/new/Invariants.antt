use Rattle.tib_count.specs.Edges.{AreEdgesAmong}
use Rattle.tib_count.proofs.edges.Edges.new.Given as goal

abbrev pub invariant-loop-rule : goal.invariant-loop-rule
invariant-loop-rule l = AreEdgesAmong l.rules l.rule-index l.froms.items l.tos.items
