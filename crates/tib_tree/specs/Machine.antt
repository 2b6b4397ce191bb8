-- Reads trees from their last token on.
use Rattle.std.specs.Prelude.{◌≡◌, ℕ, Bool, true, false, List, [], ◌∷◌, Option, Some, None, option_and_then, zero, suc}
use Rattle.tib_lex.specs.Grammar.{Word, open_, close, name, label}
use Rattle.tib_tree.specs.Written.{Written, spell, count, items, Item, item}

-- how many trees were read at this level and at each one above it that is still to be opened, how
-- many wait for their head, and the nodes that were read
pub record State : Type 0 where
  pub held : Option ℕ
  pub top : ℕ
  pub above : List ℕ
  pub items : List Item

abbrev pub state : Option ℕ → ℕ → List ℕ → List Item → State
state held top above items = record { held = held; top = top; above = above; items = items }

abbrev pub start : State
start = state None 0 [] []

abbrev pub put_node : Bool → List ℕ → State → Option State
put_node quoted text s = Some (state None (suc s.top) s.above (item quoted text s.held ∷ s.items))

abbrev pub put_open : Option ℕ → ℕ → List ℕ → List Item → Option State
put_open None top (n ∷ ns) items = Some (state (Some top) n ns items)
put_open held top above items = None

abbrev pub put_close : Option ℕ → ℕ → List ℕ → List Item → Option State
put_close None top above items = Some (state None 0 (top ∷ above) items)
put_close (Some n) top above items = None

abbrev pub put : Word → State → Option State
put (name text) s = put_node false text s
put (label text) s = put_node true text s
put open_ s = put_open s.held s.top s.above s.items
put close s = put_close s.held s.top s.above s.items
put word s = None

abbrev pub machine : List Word → Option State
machine [] = Some start
machine (word ∷ words) = option_and_then (put word) (machine words)

-- the nodes, if all of it is one tree
abbrev pub one_tree : Option ℕ → ℕ → List ℕ → List Item → Option (List Item)
one_tree None (suc zero) [] items = Some items
one_tree held top above items = None

abbrev pub finish : Option State → Option (List Item)
finish None = None
finish (Some s) = one_tree s.held s.top s.above s.items

-- the nodes of the tree that tokens are, in preorder
unfoldable pub nodes_of : List Word → Option (List Item)
nodes_of words = finish (machine words)

-- tokens are one tree, which has these nodes
pub record IsTree (words : List Word) (is : List Item) : Type 0 where
  pub tree : Written
  pub spelled : spell tree ≡ words
  pub one : count tree ≡ 1
  pub nodes : items tree ≡ is

-- `nodes_of` reads just the tokens of a tree
abbrev pub ReadsTrees : Type 0
ReadsTrees =
    (words : List Word) (nodes : List Item) → (nodes_of words ≡ Some nodes → IsTree words nodes)
    × (IsTree words nodes → nodes_of words ≡ Some nodes)
