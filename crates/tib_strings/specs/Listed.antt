-- The words of a line: `*e*` alone stands for none, and otherwise each token is a word.
use Rattle.std.specs.Prelude.{◌≡◌, ◌⊎◌, ℕ, Bool, true, false, not, List, [], ◌∷◌, map, Option, Some, None, if◌then◌else◌, slice_get}
use Rattle.std.specs.List.{list_all}
use Rattle.std.specs.Str.{bytes_eq}
use Rattle.tib_lex.specs.Grammar.{Word, name, label}
use Rattle.tib_lex.specs.Lists.{Along}
use Rattle.tib_tree.specs.Shape.{item_of as node_of}
use Rattle.tib_tree.specs.Written.{Item, item}

-- `*e*`
abbrev pub mark : List ℕ
mark = 42 ∷ (101 ∷ (42 ∷ []))

-- a token is this word: a name other than `*e*`, or any text in quotes
abbrev pub IsEntry : Word → Item → Type 0
IsEntry (name text) i = (i ≡ item false text None) × (text ≡ mark → ⊥)
IsEntry (label text) i = i ≡ item true text None
IsEntry token i = ⊥

-- THE MEANING: `*e*` alone are no words; other tokens are a word each.
abbrev pub SpellsList : List Word → List Item → Type 0
SpellsList tokens items = ((tokens ≡ name mark ∷ []) × (items ≡ [])) ⊎ Along IsEntry tokens items

-- The reading.
abbrev pub is_mark : Word → Bool
is_mark (name text) = bytes_eq text mark
is_mark token = false

abbrev pub is_mark_alone : List Word → Bool
is_mark_alone [] = false
is_mark_alone (t ∷ []) = is_mark t
is_mark_alone (t ∷ (u ∷ tokens)) = false

abbrev pub is_entry : Word → Bool
is_entry (name text) = not (bytes_eq text mark)
is_entry (label text) = true
is_entry token = false

-- its item, without children
abbrev pub item_of : Word → Item
item_of token = node_of token None

abbrev pub list_in : List Word → Option (List Item)
list_in tokens =
    if is_mark_alone tokens then Some []
    else if list_all is_entry tokens then Some (map item_of tokens)
    else None

-- the texts of words
abbrev pub texts_of : List Item → List (List ℕ)
texts_of items = map (λ i. i.text) items

-- the label of a word
abbrev pub IsNamed : List (List ℕ) → ℕ → Item → Type 0
IsNamed labels f i = slice_get labels f ≡ Some i.text
