use Rattle.tib_grammar_file.proofs.PrintingLines.{HalfLines}
use Rattle.tib_rulewise.specs.Placed.{variables_from}
use Rattle.tib_texts.proofs.VariableLines.{shown}
use Rattle.tib_texts.proofs.derived.put_variables.Given as goal

abbrev pub invariant-loop-k : goal.invariant-loop-k
invariant-loop-k g l = HalfLines g.W.Sink.seen l.fn.out l.out shown (variables_from 0 l.count) l.k
