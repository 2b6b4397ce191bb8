-- What a line of a tree file holds.
use Rattle.std.specs.Prelude.{◌≡◌, ℕ, List, [], ◌∷◌, Option, Some, None, Result, Ok, Err, length, nat_lt, if◌then◌else◌, map}
use Rattle.tib_lex.specs.Grammar.{Word}
use Rattle.tib_lex.specs.Line.{words_of}
use Rattle.tib_tree.specs.Written.{Item}
use Rattle.tib_tree.specs.Machine.{nodes_of}
use Rattle.tib_tree.specs.Nodes.{AreNodes}
use Rattle.tib_lex.specs.declared.fault.FaultKind.{FaultKind}
use Rattle.tib_lex.specs.declared.fault.FaultKind.TheVariants as kinds
use Rattle.tib_lex.specs.declared.fault.LineError.{LineError}
use Rattle.tib_lex.specs.declared.fault.LineError.TheVariants as errors
use Rattle.tib_tree.specs.Trees.{Tree, preorder_of, most_nodes}

abbrev pub small_tree : Option (List Item) → Result (Option (List Item)) FaultKind
small_tree None = Err kinds.BadTree
small_tree (Some is) =
    if nat_lt most_nodes (length is) then Err kinds.TooManyNodes else Ok (Some is)

abbrev pub tree_in : Option (List Word) → Result (Option (List Item)) FaultKind
tree_in None = Err kinds.BadToken
tree_in (Some []) = Ok None
tree_in (Some (word ∷ words)) = small_tree (nodes_of (word ∷ words))

-- no tokens, or a tree's nodes, or the fault of the line
unfoldable pub tree_line : List ℕ → Result (Option (List Item)) FaultKind
tree_line line = tree_in (words_of line)

-- the texts of the nodes, in preorder
abbrev pub texts_in : Result (Option (List Item)) FaultKind → List (List ℕ)
texts_in (Ok (Some is)) = map (λ i. i.text) is
texts_in other = []

-- what was read from a line, over a table of labels
abbrev pub IsLine : List (List ℕ) → Result (Option (Tree ℕ)) LineError →
    Result (Option (List Item)) FaultKind → Type 0
IsLine labels (Ok None) wanted = wanted ≡ Ok None
IsLine labels (Ok (Some tree)) wanted =
    (is : List Item) × (wanted ≡ Ok (Some is)) × AreNodes labels (preorder_of tree) is
IsLine labels (Err (errors.Fault kind)) wanted = wanted ≡ Err kind
IsLine labels (Err errors.OutOfMemory) wanted = Unit {0}
