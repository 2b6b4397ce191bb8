use Rattle.indexmap.specs.IndexSet.{insert_all}
use Rattle.tib_grammar.specs.Items.{pairs_of}
use Rattle.tib_grammar.specs.declared.Item.TheVariants.{Label}
use Rattle.tib_domain.specs.Alphabet.{same_symbol, symbols_in}
use Rattle.tib_domain.proofs.Steps.{item_gathered}
use Rattle.tib_domain.proofs.alphabet.add_symbols.Goals as goal

pub loop-node-preserved : goal.loop-node-preserved
loop-node-preserved c =
    item_gathered c.args.items.now c.loop-node.node-index (Label 0 0) c.loop-node-test.true c.loop-node.symbols.keys c.add_symbol.new.symbols.keys
    (insert_all same_symbol c.args.symbols.now.keys (symbols_in (pairs_of c.args.items.now))) c.in_ok-add_symbol.ensures c.loop-node.invariant
