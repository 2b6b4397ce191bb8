-- The numbers of variables in pairs, and leaves that have a label.
use Rattle.std.specs.Prelude.{◌≡◌, ℕ, List, map, Some}
use Rattle.tib_lex.specs.Lists.{Has}
pub use Rattle.tib_lex.specs.Lists.{occurrences}
use Rattle.tib_grammar.specs.declared.Item.{Item}
use Rattle.tib_grammar.specs.Items.{holes_in}
use Rattle.tib_transducer.specs.declared.Variable.{Variable}
use Rattle.tib_transducer.specs.declared.Pair.{Pair}

-- the numbers of the variables in the pairs among some items
abbrev pub numbers_in : List (Item (Pair ℕ)) → List ℕ
numbers_in items = map (λ x. x.variable) (holes_in items)

-- one of some variables has a label
pub record HaveLabel (variables : List Variable) : Type 0 where
  pub variable : Variable
  pub stands : Has variables variable
  pub root : ℕ
  pub labelled : variable.label ≡ Some root
