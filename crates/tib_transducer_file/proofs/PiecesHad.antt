-- A line has just the tokens that are read of it.
use Rattle.std.proofs.Common.{◌≡◌, ℕ, ◌+◌, List, [], ◌∷◌, ◌++◌, length, drop, refl, ap, sym, ◌∙◌, subst, Option, zero, suc}
use Rattle.std.specs.Prelude.{option_map, slice_range, Some, None, not}
use Rattle.tib_lex.specs.Grammar.{Word, begins_blank, spelling, Begins, HasBadToken}
use Rattle.tib_lex.specs.Next.{next}
use Rattle.tib_lex.specs.Laws.{Found}
use Rattle.tib_lex.specs.Line.{words_of, words_in, words_after, word_of}
use Rattle.tib_lex.specs.declared.token.Token.{Token}
use Rattle.tib_lex.specs.declared.token.Lexed.{Lexed}
use Rattle.tib_lex.specs.declared.token.Lexed.TheVariants as lexed
use Rattle.tib_lex.proofs.HasWords.{Blanks, split_blanks, Means, means_of, token_word, behind, slice_there, bad_had, same_token}
use Rattle.tib_transducer_file.specs.Pieces.{Piece, piece, meaning, meanings, HasPieces, pieces_after, pieces_in, pieces_of}

-- the bytes of the token that was read
token_bytes : (bytes bl back : List ℕ) (t : Token) (f : Found back (length bl) (lexed.Token t)) → bytes ≡ bl ++ back → slice_range bytes t.start t.end ≡ spelling f.word
token_bytes bytes bl back t f e =
    ap (λ (u : Token). slice_range bytes u.start u.end) (same_token t f.word (length bl) f.is)
    ∙ ap (λ (l : List ℕ). slice_range l (length bl) (length bl + length (spelling f.word))) (behind bytes bl back f.rest f.word e f.begins)
    ∙ slice_there bl (spelling f.word) f.rest

put_before : (p : Piece) (o : Option (List Piece)) (pieces : List Piece) → option_map (λ ps. p ∷ ps) o ≡ Some pieces → (more : List Piece) × (o ≡ Some more) × (pieces ≡ p ∷ more)
put_before p None pieces e = let bad : None ≡ Some pieces = e in absurd (cc)
put_before p (Some more) pieces e = (more, refl, cc)

has_after : (n : ℕ) (pieces : List Piece) (bytes : List ℕ) (s : Blanks bytes) (r : Lexed) → Means s.back (length s.front) r → ((more : List Piece) (rest : List ℕ) → pieces_in n rest ≡ Some more → HasPieces more rest) → pieces_after (λ rest. pieces_in n rest) bytes r ≡ Some pieces → HasPieces pieces bytes
has_after n pieces bytes s lexed.End m ih e =
    let none : [] ≡ pieces = cc in
    subst (λ (ps : List Piece). HasPieces ps bytes) none (record { blanks = s.front; rest = s.back; parts = s.parts; white = s.white; are = m })
has_after n pieces bytes s (lexed.BadToken p) m ih e = let bad : None ≡ Some pieces = e in absurd (cc)
has_after n pieces bytes s (lexed.Token t) m ih e =
    let tw = token_word bytes s.front s.back t m s.parts in
    let first : Piece = piece (not (begins_blank bytes)) t.kind (slice_range bytes t.start t.end) in
    let p = put_before first (pieces_in n (drop t.end bytes)) pieces e in
    let h : HasPieces p.0 m.rest = ih p.0 m.rest (ap (λ (l : List ℕ). pieces_in n l) (sym tw.1) ∙ p.1) in
    let b : Begins s.back (meaning first) m.rest = subst (λ (w : Word). Begins s.back w m.rest) (sym tw.0) m.begins in
    subst (λ (ps : List Piece). HasPieces ps bytes) (sym p.2)
    (refl, token_bytes bytes s.front s.back t m s.parts ∙ ap spelling (sym tw.0), record { blanks = s.front; rest = s.back; parts = s.parts; white = s.white; are = (m.rest, b, h) })

has_in : (n : ℕ) (pieces : List Piece) (bytes : List ℕ) → pieces_in n bytes ≡ Some pieces → HasPieces pieces bytes
has_in zero pieces bytes e = let bad : None ≡ Some pieces = e in absurd (cc)
has_in (suc n) pieces bytes e = has_after n pieces bytes (split_blanks bytes) (next bytes 0) (means_of bytes (split_blanks bytes)) (has_in n) e

pub pieces_had : (pieces : List Piece) (bytes : List ℕ) → pieces_of bytes ≡ Some pieces → HasPieces pieces bytes
unfolding pieces_of
pieces_had pieces bytes e = has_in (suc (length bytes)) pieces bytes e

-- the words of a line are those of its tokens
words_mean : (n : ℕ) (bytes : List ℕ) (r : Lexed) → ((rest : List ℕ) → words_in n rest ≡ option_map meanings (pieces_in n rest)) → words_after (λ rest. words_in n rest) bytes r ≡ option_map meanings (pieces_after (λ rest. pieces_in n rest) bytes r)
words_mean n bytes lexed.End ih = refl
words_mean n bytes (lexed.BadToken p) ih = refl
words_mean n bytes (lexed.Token t) ih =
    ap (λ (o : Option (List Word)). option_map (λ words. word_of t.kind (slice_range bytes t.start t.end) ∷ words) o) (ih (drop t.end bytes)) ∙ moved (pieces_in n (drop t.end bytes))
  where
    moved : (o : Option (List Piece)) → option_map (λ words. word_of t.kind (slice_range bytes t.start t.end) ∷ words) (option_map meanings o) ≡ option_map meanings (option_map (λ pieces. piece (not (begins_blank bytes)) t.kind (slice_range bytes t.start t.end) ∷ pieces) o)
    moved None = refl
    moved (Some pieces) = refl

words_same_in : (n : ℕ) (bytes : List ℕ) → words_in n bytes ≡ option_map meanings (pieces_in n bytes)
words_same_in zero bytes = refl
words_same_in (suc n) bytes = words_mean n bytes (next bytes 0) (words_same_in n)

pub words_same : (bytes : List ℕ) → words_of bytes ≡ option_map meanings (pieces_of bytes)
unfolding words_of pieces_of
words_same bytes = words_same_in (suc (length bytes)) bytes

pub bad_pieces : (line : List ℕ) → pieces_of line ≡ None → HasBadToken line
bad_pieces line e = bad_had line (words_same line ∙ ap (option_map meanings) e)
