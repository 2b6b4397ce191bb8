-- What a token may stand for in a transducer: a variable, a pair, or a root with its state.
use Rattle.std.specs.Prelude.{◌+◌, ◌-◌, ℕ, Bool, true, false, ◌&&◌, ◌==◌, not, nat_lt, List, [], ◌∷◌, ◌++◌, length, take, drop, slice_range, Option, Some, None, if◌then◌else◌}
use Rattle.std.specs.List.{prefix_len}
use Rattle.tib_lex.specs.Grammar.{Word, name, is_name}
use Rattle.tib_lex.specs.Line.{unescape}
use Rattle.tib_lex.specs.declared.token.Kind.{Kind}
use Rattle.tib_lex.specs.declared.token.Kind.TheVariants as kinds
use Rattle.tib_tree.specs.Written.{Item}
use Rattle.tib_grammar_file.specs.Weight.{is_digit, decimal}
use Rattle.tib_transducer_file.specs.Pieces.{Piece, meaning}

-- how many digits are at the front
abbrev pub digits : List ℕ → ℕ
digits text = prefix_len is_digit text

-- how many digits follow an x at the front, where they are one to nine; otherwise 0
abbrev pub some_digits : ℕ → ℕ
some_digits n = if nat_lt n 10 then n else 0

abbrev pub number_size : List ℕ → ℕ
number_size [] = 0
number_size (b ∷ rest) = if b == 120 then some_digits (digits rest) else 0

-- their number, and what comes after them
abbrev pub number_of : List ℕ → ℕ
number_of text = decimal (take (number_size text) (drop 1 text))

abbrev pub behind_number : List ℕ → List ℕ
behind_number text = drop (number_size text + 1) text

-- a label as it is written after a state or a variable: without quotes, or in them
abbrev pub is_quoted : List ℕ → Bool
is_quoted [] = false
is_quoted (b ∷ rest) = b == 34 && not (nat_lt (length rest) 1)

abbrev pub written_label : List ℕ → List ℕ
written_label text = if is_quoted text then unescape (slice_range text 1 (length text - 1)) else text

-- what may come after a variable's number: nothing, a colon, or a colon and a label
abbrev pub label_behind : List ℕ → Option (List ℕ)
label_behind [] = None
label_behind (b ∷ rest) = Some (written_label (b ∷ rest))

abbrev pub ending : ℕ → List ℕ → Option (ℕ × Option (List ℕ))
ending number [] = Some (number, None)
ending number (b ∷ rest) = if b == 58 then Some (number, label_behind rest) else None

-- A variable: x, one to nine digits, maybe a colon, and after it maybe the label that it asks for.
unfoldable pub variable_of : List ℕ → Option (ℕ × Option (List ℕ))
variable_of text = if number_size text == 0 then None else ending (number_of text) (behind_number text)

abbrev pub not_stop : ℕ → Bool
not_stop b = not (b == 46)

-- what comes before the first full stop, and after it
abbrev pub stop_at : List ℕ → ℕ
stop_at text = prefix_len not_stop text

abbrev pub before_stop : List ℕ → List ℕ
before_stop text = take (stop_at text) text

abbrev pub behind_stop : List ℕ → List ℕ
behind_stop text = drop (stop_at text + 1) text

-- A pair: a state's name, a full stop, x, and one to nine digits.
abbrev pub is_number : List ℕ → Bool
is_number text = not (number_size text == 0) && length text == number_size text + 1

unfoldable pub pair_of : List ℕ → Option (List ℕ × ℕ)
pair_of text = if is_name (before_stop text) && is_number (behind_stop text) then Some (before_stop text, number_of (behind_stop text)) else None

-- A root: a state's name, a full stop, and something after it.
abbrev pub is_root : List ℕ → Bool
is_root text = is_name (before_stop text) && nat_lt 0 (length (behind_stop text))

-- the text of an unquoted leaf
abbrev pub leaf_text : Bool → Option ℕ → List ℕ → Option (List ℕ)
leaf_text false None text = Some text
leaf_text quoted kids text = None

abbrev pub variable_if : Option (List ℕ) → Option (ℕ × Option (List ℕ))
variable_if None = None
variable_if (Some text) = variable_of text

abbrev pub pair_if : Option (List ℕ) → Option (List ℕ × ℕ)
pair_if None = None
pair_if (Some text) = pair_of text

-- the variable that an item of a left side below its root is
abbrev pub variable_in : Item → Option (ℕ × Option (List ℕ))
variable_in i = variable_if (leaf_text i.quoted i.kids i.text)

-- the pair that an item of a right side is
abbrev pub pair_in : Item → Option (List ℕ × ℕ)
pair_in i = pair_if (leaf_text i.quoted i.kids i.text)

abbrev pub is_some : {X : Type 0} → Option X → Bool
is_some None = false
is_some (Some x) = true

-- a leaf of a right side that would be a variable of a left side
abbrev pub is_stray : Item → Bool
is_stray i = not (is_some (pair_in i)) && is_some (variable_in i)

-- a name of which the first full stop is the last byte
abbrev pub ends_with_stop : List ℕ → Bool
ends_with_stop text = length text == stop_at text + 1

-- a variable that ends with a colon
abbrev pub is_colon : List ℕ → Bool
is_colon [] = false
is_colon (b ∷ rest) = b == 58 && length rest == 0

abbrev pub ends_with_colon : List ℕ → Bool
ends_with_colon text = not (number_size text == 0) && is_colon (behind_number text)

abbrev pub is_kind : Kind → Kind → Bool
is_kind kinds.Open kinds.Open = true
is_kind kinds.Close kinds.Close = true
is_kind kinds.Hash kinds.Hash = true
is_kind kinds.Arrow kinds.Arrow = true
is_kind kinds.Name kinds.Name = true
is_kind kinds.Quoted kinds.Quoted = true
is_kind one other = false

abbrev pub opens : List Piece → Bool
opens [] = false
opens (p ∷ pieces) = is_kind kinds.Open p.kind

-- a name takes the quoted token that follows it directly: at the root after a state and its full
-- stop, below it after a variable and its colon, where no parenthesis follows
abbrev pub takes : Bool → List ℕ → List Piece → Bool
takes true text behind = ends_with_stop text
takes false text behind = ends_with_colon text && not (opens behind)

abbrev pub takes_next : Bool → Piece → Piece → List Piece → Bool
takes_next root p q behind = is_kind kinds.Name p.kind && is_kind kinds.Quoted q.kind && q.joined && takes root p.bytes behind

-- The words of a left side, of which the first is its root's: a name with the quoted token that it
-- takes is one.
abbrev pub joins : Bool → List Piece → List Word
joins root [] = []
joins root (p ∷ []) = meaning p ∷ []
joins root (p ∷ (q ∷ behind)) =
    if takes_next root p q behind then name (p.bytes ++ q.bytes) ∷ joins false behind
    else meaning p ∷ joins false (q ∷ behind)

abbrev pub left_words : List Piece → List Word
left_words pieces = joins true pieces
