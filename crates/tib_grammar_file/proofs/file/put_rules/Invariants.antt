use Rattle.tib_grammar_file.proofs.PrintingLines.{HalfLines}
use Rattle.tib_grammar_file.proofs.file.put_rules.Given as goal

abbrev pub invariant-loop-rule : goal.invariant-loop-rule
invariant-loop-rule g l = HalfLines g.W.Sink.seen l.fn.out l.out (g.N.RuleNotation.rule_text l.scale l.names l.labels) l.rules l.rule-index
