use Rattle.std.proofs.Common.{◌∷◌, [], ap, sym, ◌∙◌}
use Rattle.indexmap.specs.IndexSet.{insert_all}
use Rattle.tib_grammar.specs.Items.{pairs_of}
use Rattle.tib_grammar.specs.declared.Item.{Item}
use Rattle.tib_transducer.specs.declared.Variable.{Variable}
use Rattle.tib_domain.specs.Alphabet.{same_symbol, symbols_in}
use Rattle.tib_domain.proofs.alphabet.add_symbol.Goals as goal

pub returns-in_ok-insert-in-Label : goal.returns-in_ok-insert-in-Label
returns-in_ok-insert-in-Label c =
    c.in_ok-insert-in-Label.ensures.keys
    ∙ ap (λ (i : Item Variable). insert_all same_symbol c.args.symbols.now.keys (symbols_in (pairs_of (i ∷ [])))) (sym c.in-Label.is)
