use Rattle.std.proofs.Common.{◌≡◌, drop}
use Rattle.indexmap.specs.IndexSet.{insert_all}
use Rattle.tib_grammar.specs.Items.{pairs_of}
use Rattle.tib_domain.specs.Alphabet.{same_symbol, symbols_in}
use Rattle.tib_domain.proofs.alphabet.add_symbols.Given as goal

abbrev pub invariant-loop-node : goal.invariant-loop-node
invariant-loop-node l = insert_all same_symbol l.symbols.keys (symbols_in (pairs_of (drop l.node-index l.items))) ≡ insert_all same_symbol l.fn.symbols.keys (symbols_in (pairs_of l.items))
