-- The text of a string file, in the words of the format.
use Rattle.std.specs.Prelude.{◌≤◌, ◌⊎◌, ℕ, List, [], ◌∷◌, length, map}
use Rattle.tib_lex.specs.Grammar.{Word, HasWords}
use Rattle.tib_lex.specs.Lines.{lines_of}
use Rattle.tib_lex.specs.Lists.{Along, Each}
use Rattle.tib_tree.specs.Growth.{text_at}
use Rattle.tib_tree.specs.Trees.{most_nodes}
use Rattle.tib_tree.specs.Written.{Item}
use Rattle.tib_strings.specs.Listed.{SpellsList, IsNamed}

-- a line has no tokens
abbrev pub IsBlank : List ℕ → Type 0
IsBlank line = HasWords [] line

-- a line has tokens, which are these words
pub record HasList (line : List ℕ) (items : List Item) : Type 0 where
  pub token : Word
  pub tokens : List Word
  pub has : HasWords (token ∷ tokens) line
  pub spells : SpellsList (token ∷ tokens) items

-- one line has tokens, which are these words
abbrev pub HasString : List (List ℕ) → List Item → Type 0
HasString [] items = ⊥
HasString (line ∷ lines) items = (IsBlank line × HasString lines items) ⊎ (HasList line items × Each IsBlank lines)

-- The bytes are the text of a string: its labels are those of the words.
pub record StringText (labels : List (List ℕ)) (bytes s : List ℕ) : Type 0 where
  pub items : List Item
  pub written : HasString (lines_of bytes) items
  pub words : Along (IsNamed labels) s items

-- the bytes are the text of this string, which has 10,000 words at most
abbrev pub ReadsAsString : List (List ℕ) → List ℕ → List ℕ → Type 0
ReadsAsString labels bytes s = StringText labels bytes s × (length s ≤ most_nodes)

-- the texts of a string's words
abbrev pub words_of_string : List (List ℕ) → List ℕ → List (List ℕ)
words_of_string labels s = map (text_at labels) s
