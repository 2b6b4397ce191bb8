use Rattle.std.proofs.Common.{◌≡◌, take, map}
use Rattle.tib_grammar.specs.Renaming.{number_in}
use Rattle.tib_transducer.specs.NamedPairs.{named_item}
use Rattle.tib_canon.proofs.renaming.renamed_items.Given as goal

abbrev pub invariant-loop-item : goal.invariant-loop-item
invariant-loop-item l = l.renamed.items ≡ map (named_item (number_in l.numbers)) (take l.item-index l.items)
