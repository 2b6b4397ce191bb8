-- The items of a left side as they are made.
use Rattle.std.specs.Prelude.{◌≡◌, ℕ, List, ◌++◌}
use Rattle.tib_lex.specs.Lists.{Along}
use Rattle.tib_tree.specs.Written.{Item}
use Rattle.tib_grammar.specs.Items.{pairs_of, holes_in}
use Rattle.tib_grammar.specs.declared.Item.{Item as SideItem}
use Rattle.tib_transducer.specs.Range.{AreNumbered}
use Rattle.tib_transducer.specs.declared.Variable.{Variable}
use Rattle.tib_transducer_file.specs.Value.{IsLeftNode}

-- items below a root went last, and their variables are numbered from 0
pub record PushesLeft (labels : List (List ℕ)) (old now : List (SideItem Variable)) (items : List Item) : Type 0 where
  pub more : List (SideItem Variable)
  pub last : now ≡ old ++ more
  pub are : Along (IsLeftNode labels) (pairs_of more) items
  pub numbered : AreNumbered 0 (holes_in more)
