-- The tokens that a line has are those that are read of it.
use Rattle.std.proofs.Common.{◌≡◌, ℕ, List, [], ◌∷◌, ◌++◌, length, drop, refl, ap, sym, ◌∙◌, Option}
use Rattle.std.specs.Prelude.{option_map, slice_range, Some, None, not}
use Rattle.tib_lex.specs.Grammar.{Word, begins_blank, spelling, Begins, HasBadToken}
use Rattle.tib_lex.specs.Next.{next}
use Rattle.tib_lex.specs.Laws.{kind_of}
use Rattle.tib_lex.specs.Line.{word_of}
use Rattle.tib_lex.specs.declared.token.Kind.{Kind}
use Rattle.tib_lex.specs.declared.token.Kind.TheVariants as token_kinds
use Rattle.tib_lex.specs.declared.token.Token.{Token}
use Rattle.tib_lex.specs.declared.token.Lexed.TheVariants as lexed
use Rattle.tib_lex.proofs.HasWords.{words_read, bad_read, next_word, token_of, slice_there, drop_there}
use Rattle.tib_transducer_file.specs.Pieces.{Piece, piece, meaning, meanings, HasPieces, pieces_of}
use Rattle.tib_transducer_file.proofs.LinePieces.{pieces_step}
use Rattle.tib_transducer_file.proofs.PiecesHad.{words_same}

no_meanings : (o : Option (List Piece)) → option_map meanings o ≡ Some [] → o ≡ Some []
no_meanings None e = let bad : ◌≡◌ {A = Option (List Word)} None (Some []) = e in absurd (cc)
no_meanings (Some []) e = refl
no_meanings (Some (p ∷ pieces)) e = let bad : Some (meaning p ∷ meanings pieces) ≡ Some [] = e in absurd (cc)

kind_again : (kind : Kind) (bytes : List ℕ) → kind_of (word_of kind bytes) ≡ kind
kind_again token_kinds.Open bytes = refl
kind_again token_kinds.Close bytes = refl
kind_again token_kinds.Hash bytes = refl
kind_again token_kinds.Arrow bytes = refl
kind_again token_kinds.Name bytes = refl
kind_again token_kinds.Quoted bytes = refl

pub pieces_read : (pieces : List Piece) (line : List ℕ) → HasPieces pieces line → pieces_of line ≡ Some pieces
pieces_read [] line h = no_meanings (pieces_of line) (sym (words_same line) ∙ words_read [] line h)
pieces_read (p ∷ pieces) line (joined, bytes, after) =
    let rest : List ℕ = after.are.0 in
    let b : Begins after.rest (meaning p) rest = after.are.1 in
    let whole : line ≡ after.blanks ++ (spelling (meaning p) ++ rest) = after.parts ∙ ap (λ (l : List ℕ). after.blanks ++ l) b.spelled in
    let t : Token = token_of (meaning p) (length after.blanks) in
    let n : next line 0 ≡ lexed.Token t = ap (λ (l : List ℕ). next l 0) whole ∙ next_word after.blanks (meaning p) rest after.white b.is_word b.whole in
    let spelled : slice_range line t.start t.end ≡ p.bytes =
    ap (λ (l : List ℕ). slice_range l t.start t.end) whole ∙ slice_there after.blanks (spelling (meaning p)) rest ∙ sym bytes in
    let behind : drop t.end line ≡ rest = ap (drop t.end) whole ∙ drop_there after.blanks (spelling (meaning p)) rest in
    let first : piece (not (begins_blank line)) t.kind (slice_range line t.start t.end) ≡ p =
    ap (λ j. piece j t.kind (slice_range line t.start t.end)) (sym joined)
    ∙ ap (λ (k : Kind). piece p.joined k (slice_range line t.start t.end)) (kind_again p.kind p.bytes)
    ∙ ap (piece p.joined p.kind) spelled in
    pieces_step line t n
    ∙ ap (λ (l : List ℕ). option_map (λ ps. piece (not (begins_blank line)) t.kind (slice_range line t.start t.end) ∷ ps) (pieces_of l)) behind
    ∙ ap (option_map (λ ps. piece (not (begins_blank line)) t.kind (slice_range line t.start t.end) ∷ ps)) (pieces_read pieces rest after.are.2)
    ∙ ap (λ (q : Piece). Some (q ∷ pieces)) first

-- and where a token is bad none are
none_mean : (o : Option (List Piece)) → option_map meanings o ≡ None → o ≡ None
none_mean None e = refl
none_mean (Some pieces) e = let bad : Some (meanings pieces) ≡ None = e in absurd (cc)

pub bad_pieces_read : (line : List ℕ) → HasBadToken line → pieces_of line ≡ None
bad_pieces_read line h = none_mean (pieces_of line) (sym (words_same line) ∙ bad_read h.0 line h.1)
