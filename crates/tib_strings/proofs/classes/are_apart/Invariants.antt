use Rattle.std.proofs.Common.{drop}
use Rattle.tib_lex.specs.Lists.{Distinct}
use Rattle.tib_strings.specs.Rules.{variables_in}
use Rattle.tib_strings.proofs.classes.are_apart.Given as goal

abbrev pub invariant-loop-i : goal.invariant-loop-i
invariant-loop-i l = record {
  back : Distinct (variables_in (drop l.i l.words)) → Distinct (variables_in l.words);
  on : Distinct (variables_in l.words) → Distinct (variables_in (drop l.i l.words));
}
