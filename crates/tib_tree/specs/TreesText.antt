-- The text of trees, and what is wrong with bytes that are none.
use Rattle.std.specs.Prelude.{◌≡◌, ℕ, ◌<◌, ◌≤◌, ◌⊎◌, List, [], ◌∷◌, length, Option, Some, None, Result, Ok, Err}
use Rattle.std.specs.Global.{Vec}
use Rattle.tib_lex.specs.Grammar.{Word, HasWords, HasBadToken}
use Rattle.tib_lex.specs.Lines.{lines_of}
use Rattle.tib_lex.specs.FirstFault.{IsFirstFault as FirstFaultOf}
use Rattle.tib_lex.specs.Lists.{Each}
use Rattle.tib_lex.specs.declared.fault.FaultKind.{FaultKind}
use Rattle.tib_lex.specs.declared.fault.FaultKind.TheVariants.{BadToken, BadTree, TooManyNodes}
use Rattle.tib_lex.specs.declared.fault.FileFault.{FileFault}
use Rattle.tib_lex.specs.declared.fault.ReadError.{ReadError}
use Rattle.tib_lex.specs.declared.fault.ReadError.TheVariants as errors
use Rattle.tib_tree.specs.Trees.{Tree, size, most_nodes}
use Rattle.tib_tree.specs.Written.{Item}
use Rattle.tib_tree.specs.Machine.{IsTree}
use Rattle.tib_tree.specs.Meaning.{IsTreeLine}

-- a line has no tokens, or it is the first tree, and the lines after it are the others
abbrev pub HasTrees : List (List ℕ) → List (List ℕ) → List (Tree ℕ) → Type 0
HasTrees labels [] ts = ts ≡ []
HasTrees labels (line ∷ lines) ts =
    (HasWords [] line × HasTrees labels lines ts)
    ⊎ ((t : Tree ℕ) × (rest : List (Tree ℕ)) × (ts ≡ t ∷ rest) × IsTreeLine labels line t × HasTrees labels lines rest)

-- The bytes are the text of these trees over a table of labels, whatever their sizes.
abbrev pub TreesText : List (List ℕ) → List ℕ → List (Tree ℕ) → Type 0
TreesText labels bytes ts = HasTrees labels (lines_of bytes) ts

-- a tree that a reader takes
abbrev pub IsSmall : Tree ℕ → Type 0
IsSmall t = size t ≤ most_nodes

-- tokens that are no tree
pub record NoTree (line : List ℕ) : Type 0 where
  pub word : Word
  pub words : List Word
  pub has : HasWords (word ∷ words) line
  pub none : (nodes : List Item) → IsTree (word ∷ words) nodes → ⊥

-- the tokens of a tree with these nodes
pub record HasNodes (line : List ℕ) (nodes : List Item) : Type 0 where
  pub words : List Word
  pub has : HasWords words line
  pub tree : IsTree words nodes

-- a tree with too many nodes
pub record LargeTree (line : List ℕ) : Type 0 where
  pub nodes : List Item
  pub tree : HasNodes line nodes
  pub many : most_nodes < length nodes

-- what is wrong with a line
abbrev pub HasFault : List ℕ → FaultKind → Type 0
HasFault line BadToken = HasBadToken line
HasFault line BadTree = NoTree line
HasFault line TooManyNodes = LargeTree line
HasFault line kind = ⊥

-- what a line holds: no tokens, a tree that is not too large, or a fault
abbrev pub LineHolds : List ℕ → Result (Option (List Item)) FaultKind → Type 0
LineHolds line (Ok None) = HasWords [] line
LineHolds line (Ok (Some nodes)) = HasNodes line nodes × (length nodes ≤ most_nodes)
LineHolds line (Err kind) = HasFault line kind

-- a line without a fault
abbrev pub IsGood : List ℕ → Type 0
IsGood line = (holds : Option (List Item)) × LineHolds line (Ok holds)

-- the first line with a fault, by its number, and its fault
abbrev pub IsFirstFault : List ℕ → FileFault → Type 0
IsFirstFault bytes fault = FirstFaultOf IsGood HasFault bytes fault

-- A reader gives the trees of the text where none is too large, or else its first fault.
abbrev pub ReadsTrees : List (List ℕ) → List ℕ → Result (Vec (Tree ℕ)) ReadError → Type 0
ReadsTrees labels bytes (Ok trees) = TreesText labels bytes trees.items × Each IsSmall trees.items
ReadsTrees labels bytes (Err (errors.Fault fault)) = IsFirstFault bytes fault
ReadsTrees labels bytes (Err errors.OutOfMemory) = Unit {0}
