use Rattle.std.proofs.Common.{◌≡◌, ℕ, List}
use Rattle.tib_tree.specs.Grows.{Grows}
use Rattle.tib_grammar_file.proofs.PrintingLines.{HalfLines}
use Rattle.tib_transducer.specs.declared.TransducerRule.{TransducerRule}
use Rattle.tib_transducer_file.specs.Printed.{rule_text}
use Rattle.tib_rulewise.specs.Derivations.{AreDerivationRules}
use Rattle.tib_texts.proofs.derived.put_lines.Given as goal

abbrev pub invariant-loop-rule : goal.invariant-loop-rule
invariant-loop-rule g l = record {
  numbered : l.number ≡ l.rule-index;
  half : (all : List (List ℕ)) (derived : List (TransducerRule ℕ)) → Grows l.labels all → AreDerivationRules all l.rules derived → HalfLines g.W.Sink.seen l.fn.out l.out (rule_text l.scale l.names all) derived l.rule-index;
}
