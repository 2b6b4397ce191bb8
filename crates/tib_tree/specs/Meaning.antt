-- What trees that are written say, over a table of labels.
use Rattle.std.specs.Prelude.{◌≡◌, ℕ, List, Some, slice_get}
use Rattle.tib_lex.specs.Grammar.{Word, HasWords}
use Rattle.tib_tree.specs.Trees.{Tree, Trees, none, tree, only, preorder}
use Rattle.tib_tree.specs.Written.{Written, end, leaf, head, spell}

-- trees that are written are these trees over the labels' numbers: a leaf has no children, and each
-- label has its text
abbrev pub Says : List (List ℕ) → Written → Trees ℕ → Type 0
Says labels end none = Unit {0}
Says labels end (tree f kids rest) = ⊥
Says labels (leaf quoted text more) none = ⊥
Says labels (leaf quoted text more) (tree f none rest) =
    (slice_get labels f ≡ Some text) × Says labels more rest
Says labels (leaf quoted text more) (tree f (tree g kids others) rest) = ⊥
Says labels (head quoted text inner more) none = ⊥
Says labels (head quoted text inner more) (tree f kids rest) =
    (slice_get labels f ≡ Some text) × Says labels inner kids × Says labels more rest

-- the tokens of a line are those of a tree
pub record SpellsTree (labels : List (List ℕ)) (words : List Word) (t : Tree ℕ) : Type 0 where
  pub written : Written
  pub spelled : spell written ≡ words
  pub says : Says labels written (only t)

-- a line is a tree
pub record IsTreeLine (labels : List (List ℕ)) (line : List ℕ) (t : Tree ℕ) : Type 0 where
  pub words : List Word
  pub has : HasWords words line
  pub spells : SpellsTree labels words t

-- nodes are the preorder of the trees that are written
pub record HaveValue (labels : List (List ℕ)) (w : Written) (ns : List (ℕ × ℕ)) : Type 0 where
  pub value : Trees ℕ
  pub nodes : preorder value ≡ ns
  pub says : Says labels w value
