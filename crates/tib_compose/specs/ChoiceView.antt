-- What a choice stands for.
use Rattle.std.specs.Prelude.{ℕ, Option}
use Rattle.tib_tree.specs.Trees.{Trees, parse}
use Rattle.tib_compose.specs.declared.choice.Choice.TheInside.{Inside}

-- the tree of which it is the preorder
abbrev pub choice_of : Inside → Trees (Option ℕ)
choice_of c = parse c.rules.items
