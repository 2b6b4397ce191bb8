use Rattle.std.proofs.Common.{◌≡◌, ◌++◌, take, drop, map}
use Rattle.tib_grammar.specs.Renaming.{number_in}
use Rattle.tib_key_edges.specs.Named.{named_transducer_rule}
use Rattle.tib_canon.proofs.renaming.renamed_rules.Given as goal

abbrev pub invariant-loop-n : goal.invariant-loop-n
invariant-loop-n l = l.rules.items ≡ map (named_transducer_rule (number_in l.numbers)) (take l.n l.fn.rules.items) ++ drop l.n l.fn.rules.items
