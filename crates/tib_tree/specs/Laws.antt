-- What the trees that are read from a text are.
use Rattle.std.specs.Prelude.{◌≡◌, ℕ, List, [], ◌∷◌, ◌++◌, length, Ok, Err}
use Rattle.tib_lex.specs.Lists.{Each}
use Rattle.tib_lex.specs.declared.fault.FileFault.{FileFault}
use Rattle.tib_lex.specs.Lines.{HasNoFeed}
use Rattle.tib_tree.specs.Trees.{Tree, only}
use Rattle.tib_tree.specs.Growth.{LabelsBelow}
use Rattle.tib_tree.specs.Meaning.{IsTreeLine}
use Rattle.tib_tree.specs.Printed.{tree_text}
use Rattle.tib_tree.specs.Written.{Item}
use Rattle.tib_tree.specs.Grows.{AreDistinct}
use Rattle.tib_tree.specs.File.{trees_of, AreTrees}
use Rattle.tib_tree.specs.TreesText.{TreesText, IsSmall, IsFirstFault}

-- `trees_of` is Ok with these trees exactly where the bytes are their text and each is small
abbrev pub GivesTexts : Type 0
GivesTexts =
    (labels : List (List ℕ)) (bytes : List ℕ) (ts : List (Tree ℕ)) →
    (((iss : List (List Item)) × (trees_of bytes ≡ Ok iss) × AreTrees labels ts iss) → TreesText labels bytes ts × Each IsSmall ts)
    × ((TreesText labels bytes ts × Each IsSmall ts) → ((iss : List (List Item)) × (trees_of bytes ≡ Ok iss) × AreTrees labels ts iss))

-- and else it is the first fault
abbrev pub GivesFaults : Type 0
GivesFaults =
    (bytes : List ℕ) (fault : FileFault) → (trees_of bytes ≡ Err fault → IsFirstFault bytes fault) × (IsFirstFault bytes fault → trees_of bytes ≡ Err fault)

-- bytes are the text of at most one list of trees over one table of distinct labels
abbrev pub MeansOne : Type 0
MeansOne =
    (labels : List (List ℕ)) (bytes : List ℕ) (ts us : List (Tree ℕ)) → AreDistinct labels →
    TreesText labels bytes ts → TreesText labels bytes us → ts ≡ us

-- a text of small trees has no fault
abbrev pub FaultsAlone : Type 0
FaultsAlone =
    (labels : List (List ℕ)) (bytes : List ℕ) (ts : List (Tree ℕ)) (fault : FileFault) →
    TreesText labels bytes ts → Each IsSmall ts → IsFirstFault bytes fault → ⊥

-- what is printed of a tree is a line that is this tree
abbrev pub PrintsBack : Type 0
PrintsBack =
    (labels : List (List ℕ)) (t : Tree ℕ) → LabelsBelow (length labels) (only t) →
    IsTreeLine labels (tree_text labels t) t

-- and if no label has a line feed, it is the text of this tree with a line feed after it
abbrev pub PrintsText : Type 0
PrintsText =
    (labels : List (List ℕ)) (t : Tree ℕ) → LabelsBelow (length labels) (only t) →
    Each HasNoFeed labels → TreesText labels (tree_text labels t ++ 10 ∷ []) (t ∷ [])
