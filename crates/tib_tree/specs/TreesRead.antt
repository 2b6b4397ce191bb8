-- What the lines that were read have.
use Rattle.std.specs.Prelude.{◌≡◌, ℕ, ◌⊎◌, List, Option, Some, None, Result, Ok, Err}
use Rattle.tib_lex.specs.declared.fault.FaultKind.{FaultKind}
use Rattle.tib_lex.specs.declared.fault.LineError.{LineError}
use Rattle.tib_lex.specs.declared.fault.LineError.TheVariants as errors
use Rattle.tib_tree.specs.Trees.{Tree, preorder_of}
use Rattle.tib_tree.specs.Written.{Item}
use Rattle.tib_tree.specs.Nodes.{AreNodes}
use Rattle.tib_tree.specs.declared.trees_read.TreesRead.{TreesRead}
use Rattle.tib_tree.specs.declared.trees_read.TreesRead.TheVariants as found

-- a tree more, of the line with this number
abbrev pub with_tree : ℕ → Tree ℕ → TreesRead → TreesRead
with_tree n t found.Nothing = found.One t
with_tree n t (found.One s) = found.Second n
with_tree n t (found.Second m) = found.Second m

-- a line has no tokens, or a tree, which was counted
abbrev pub Counts : List (List ℕ) → ℕ → TreesRead → TreesRead → Result (Option (List Item)) FaultKind → Type 0
Counts labels n before now wanted =
    ((wanted ≡ Ok None) × (now ≡ before))
    ⊎ ((t : Tree ℕ) × (is : List Item) × (wanted ≡ Ok (Some is)) × AreNodes labels (preorder_of t) is × (now ≡ with_tree n t before))

abbrev pub CountsLine : List (List ℕ) → ℕ → TreesRead → TreesRead → Result (Unit {0}) LineError → Result (Option (List Item)) FaultKind → Type 0
CountsLine labels n before now (Ok done) wanted = Counts labels n before now wanted
CountsLine labels n before now (Err (errors.Fault kind)) wanted = wanted ≡ Err kind
CountsLine labels n before now (Err errors.OutOfMemory) wanted = Unit {0}
