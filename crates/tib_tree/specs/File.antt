-- What a tree file holds.
use Rattle.std.specs.Prelude.{◌≡◌, ℕ, ◌⊎◌, List, [], ◌∷◌, ◌++◌, Option, Some, None, Result, Ok, Err, map}
use Rattle.std.specs.Global.{Vec}
use Rattle.tib_lex.specs.Lines.{lines_of, each_line}
use Rattle.tib_tree.specs.Written.{Item}
use Rattle.tib_tree.specs.Nodes.{AreNodes}
use Rattle.tib_tree.specs.Lines.{tree_line}
use Rattle.tib_lex.specs.declared.fault.FaultKind.{FaultKind}
use Rattle.tib_tree.specs.Trees.{Tree, preorder_of}
use Rattle.tib_lex.specs.declared.fault.LineError.{LineError}
use Rattle.tib_lex.specs.declared.fault.LineError.TheVariants as line_errors
use Rattle.tib_lex.specs.declared.fault.FileFault.{FileFault}
use Rattle.tib_lex.specs.declared.fault.ReadError.{ReadError}
use Rattle.tib_lex.specs.declared.fault.ReadError.TheVariants as errors

-- each line by its tokens, up to the first fault
abbrev pub trees_from : ℕ → List (List ℕ) → Result (List (List Item)) FileFault
trees_from n lines = each_line tree_line n lines

-- the trees of a file by their nodes, or its first fault
unfoldable pub trees_of : List ℕ → Result (List (List Item)) FileFault
trees_of bytes = trees_from 1 (lines_of bytes)

-- the texts of the trees' nodes, each tree in preorder
abbrev pub item_texts : List (List Item) → List (List ℕ)
item_texts [] = []
item_texts (is ∷ iss) = map (λ i. i.text) is ++ item_texts iss

-- those of the trees of a file
abbrev pub texts_in_file : Result (List (List Item)) FileFault → List (List ℕ)
texts_in_file (Ok iss) = item_texts iss
texts_in_file (Err fault) = []

abbrev pub AreTrees : List (List ℕ) → List (Tree ℕ) → List (List Item) → Type 0
AreTrees labels [] [] = Unit {0}
AreTrees labels [] (is ∷ iss) = ⊥
AreTrees labels (t ∷ ts) [] = ⊥
AreTrees labels (t ∷ ts) (is ∷ iss) = AreNodes labels (preorder_of t) is × AreTrees labels ts iss

-- a line has no tokens, or its tree went last
abbrev pub Adds : List (List ℕ) → List (Tree ℕ) → List (Tree ℕ) →
    Result (Option (List Item)) FaultKind → Type 0
Adds labels before now wanted =
    ((wanted ≡ Ok None) × (now ≡ before))
    ⊎ ((t : Tree ℕ) × (is : List Item) × (wanted ≡ Ok (Some is)) × AreNodes labels (preorder_of t) is × (now ≡ before ++ t ∷ []))

abbrev pub AddsLine : List (List ℕ) → List (Tree ℕ) → List (Tree ℕ) → Result (Unit {0}) LineError →
    Result (Option (List Item)) FaultKind → Type 0
AddsLine labels before now (Ok done) wanted = Adds labels before now wanted
AddsLine labels before now (Err (line_errors.Fault kind)) wanted = wanted ≡ Err kind
AddsLine labels before now (Err line_errors.OutOfMemory) wanted = Unit {0}

-- what was read from a file
abbrev pub IsFile : List (List ℕ) → Result (Vec (Tree ℕ)) ReadError →
    Result (List (List Item)) FileFault → Type 0
IsFile labels (Ok trees) wanted =
    (iss : List (List Item)) × (wanted ≡ Ok iss) × AreTrees labels trees.items iss
IsFile labels (Err (errors.Fault fault)) wanted = wanted ≡ Err fault
IsFile labels (Err errors.OutOfMemory) wanted = Unit {0}

abbrev pub Pushes : List (Tree ℕ) → List (Tree ℕ) → Tree ℕ → Result (Unit {0}) LineError → Type 0
Pushes before now tree (Ok done) = now ≡ before ++ tree ∷ []
Pushes before now tree (Err e) = e ≡ line_errors.OutOfMemory
