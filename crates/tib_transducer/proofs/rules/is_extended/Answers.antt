use Rattle.std.proofs.Common.{arith}
use Rattle.tib_grammar.proofs.Holes.{holes_fit}
use Rattle.tib_transducer.proofs.Labels.{extended_from, extended_not}
use Rattle.tib_transducer.proofs.rules.is_extended.Goals as goal

pub overflow_sub-result : goal.overflow_sub-result
overflow_sub-result c = omega (arith, c.count_variables.ensures, holes_fit c.items-left.result.now)

pub returns-clause-yes : goal.returns-clause-yes
returns-clause-yes c = extended_from c.args.rule.now c.items-left.result.now c.items-left.ensures.items c.count_variables.result c.count_variables.ensures

pub returns-clause-no : goal.returns-clause-no
returns-clause-no c = extended_not c.args.rule.now c.items-left.result.now c.items-left.ensures.items c.count_variables.result c.count_variables.ensures
