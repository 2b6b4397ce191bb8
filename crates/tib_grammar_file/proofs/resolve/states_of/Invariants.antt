use Rattle.std.proofs.Common.{take}
use Rattle.tib_grammar_file.specs.Resolve.{AreStatesOf}
use Rattle.tib_grammar_file.proofs.resolve.states_of.Given as goal

abbrev pub invariant-loop-n : goal.invariant-loop-n
invariant-loop-n l = AreStatesOf l.names l.states.items (take l.n l.texts)
