use Rattle.std.proofs.Common.{◌≡◌, drop}
use Rattle.indexmap.specs.IndexSet.{insert_all}
use Rattle.tib_domain.specs.Alphabet.{same_symbol, all_symbols, alphabet}
use Rattle.tib_domain.proofs.alphabet.alphabet_of.Given as goal

abbrev pub invariant-loop-rule : goal.invariant-loop-rule
invariant-loop-rule l = insert_all same_symbol l.symbols.keys (all_symbols (drop l.rule-index l.rules)) ≡ alphabet l.rules
