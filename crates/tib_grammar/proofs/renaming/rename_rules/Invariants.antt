use Rattle.std.proofs.Common.{◌≡◌, ◌++◌, take, drop, map}
use Rattle.tib_grammar.specs.GrammarOf.{named_rule}
use Rattle.tib_grammar.specs.Renaming.{number_in}
use Rattle.tib_grammar.proofs.renaming.rename_rules.Given as goal

abbrev pub invariant-loop-rule : goal.invariant-loop-rule
invariant-loop-rule l = l.rules ≡ map (named_rule (number_in l.numbers)) (take l.rule-index l.fn.rules) ++ drop l.rule-index l.fn.rules
