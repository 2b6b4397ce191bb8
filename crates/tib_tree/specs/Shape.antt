-- The state of a reader, for each line that its tokens may be of.
use Rattle.std.specs.Prelude.{ℕ, true, false, List, [], ◌∷◌, map, reverse, Option, None, suc}
use Rattle.tib_lex.specs.Grammar.{Word, name, label}
use Rattle.tib_lex.specs.Line.{word_at, Lies}
use Rattle.tib_tree.specs.Written.{Item, item}
use Rattle.tib_tree.specs.Machine.{State, state, put_open, put_close}
use Rattle.tib_tree.specs.declared.shape.Place.{Place}
use Rattle.tib_tree.specs.declared.shape.Reader.{Reader}

-- a node whose label is this word
abbrev pub item_of : Word → Option ℕ → Item
item_of (name text) kids = item false text kids
item_of (label text) kids = item true text kids
item_of word kids = item true [] kids

abbrev pub item_at : List ℕ → Place → Item
item_at line p = item_of (word_at line p.token) p.kids

-- the nodes at some places, which are in the order of reading, the last first
abbrev pub items_back : List ℕ → List Place → List Item
items_back line places = reverse (map (item_at line) places)

abbrev pub state_of : List ℕ → Reader → State
state_of line r = state r.held r.top (map (λ l. l.trees) (reverse r.above.items)) (items_back line r.places.items)

abbrev pub node_put : Word → State → State
node_put word s = state None (suc s.top) s.above (item_of word s.held ∷ s.items)

abbrev pub put_open_of : State → Option State
put_open_of s = put_open s.held s.top s.above s.items

abbrev pub put_close_of : State → Option State
put_close_of s = put_close s.held s.top s.above s.items

-- a node's token lies in its line
abbrev pub PlaceLies : ℕ → Place → Type 0
PlaceLies long p = Lies long p.token
