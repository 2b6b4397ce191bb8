use Rattle.std.proofs.Common.{drop}
use Rattle.tib_lex.specs.Lists.{Has}
use Rattle.tib_strings.specs.Rules.{variables_in}
use Rattle.tib_strings.proofs.classes.stands_among.Given as goal

abbrev pub invariant-loop-word : goal.invariant-loop-word
invariant-loop-word l = record {
  back : Has (variables_in (drop l.word-index l.words)) l.variable → Has (variables_in l.words) l.variable;
  on : Has (variables_in l.words) l.variable → Has (variables_in (drop l.word-index l.words)) l.variable;
}
