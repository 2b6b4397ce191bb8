-- The tokens of a line as they are spelled, each with whether it follows directly on the one before
-- it.
use Rattle.std.specs.Prelude.{◌≡◌, ℕ, Bool, not, ◌==◌, List, [], ◌∷◌, map, drop, slice_range, Option, Some, None, option_map, zero, suc, length}
use Rattle.tib_lex.specs.Grammar.{Word, spelling, begins_blank, AfterBlanks, Begins, HasWords}
use Rattle.tib_lex.specs.Line.{word_of}
use Rattle.tib_lex.specs.Next.{next}
use Rattle.tib_lex.specs.declared.token.Kind.{Kind}
use Rattle.tib_lex.specs.declared.token.Token.{Token}
use Rattle.tib_lex.specs.declared.token.Lexed.{Lexed}
use Rattle.tib_lex.specs.declared.token.Lexed.TheVariants as lexed

-- a token: whether no white space comes before it, its kind, and its bytes
pub record Piece : Type 0 where
  pub joined : Bool
  pub kind : Kind
  pub bytes : List ℕ

abbrev pub piece : Bool → Kind → List ℕ → Piece
piece joined kind bytes = record { joined = joined; kind = kind; bytes = bytes }

-- what it means
abbrev pub meaning : Piece → Word
meaning p = word_of p.kind p.bytes

abbrev pub meanings : List Piece → List Word
meanings pieces = map meaning pieces

-- The bytes of a line have these tokens.
abbrev pub HasPieces : List Piece → List ℕ → Type 0
HasPieces [] line = HasWords [] line
HasPieces (p ∷ pieces) line =
    (p.joined ≡ not (begins_blank line))
    × (p.bytes ≡ spelling (meaning p))
    × AfterBlanks (λ bytes. (rest : List ℕ) × Begins bytes (meaning p) rest × HasPieces pieces rest) line

-- The reading: each token after the one before it.
abbrev pub pieces_after : (List ℕ → Option (List Piece)) → List ℕ → Lexed → Option (List Piece)
pieces_after more bytes lexed.End = Some []
pieces_after more bytes (lexed.BadToken place) = None
pieces_after more bytes (lexed.Token t) =
    option_map (λ pieces. piece (not (begins_blank bytes)) t.kind (slice_range bytes t.start t.end) ∷ pieces) (more (drop t.end bytes))

abbrev pub pieces_in : ℕ → List ℕ → Option (List Piece)
pieces_in zero bytes = None
pieces_in (suc n) bytes = pieces_after (λ rest. pieces_in n rest) bytes (next bytes 0)

-- the tokens of a line, or none where one is bad
unfoldable pub pieces_of : List ℕ → Option (List Piece)
pieces_of line = pieces_in (suc (length line)) line

-- the tokens of a line at their places, after one that ends at a place
abbrev pub pieces_at : List ℕ → ℕ → List Token → List Piece
pieces_at line at [] = []
pieces_at line at (t ∷ tokens) = piece (t.start == at) t.kind (slice_range line t.start t.end) ∷ pieces_at line t.end tokens
