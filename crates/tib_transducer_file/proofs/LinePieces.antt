-- The tokens of a line from a place on.
use Rattle.std.proofs.Common.{◌≡◌, ℕ, ◌+◌, ◌<◌, List, [], ◌∷◌, ◌++◌, length, drop, refl, ap, sym, ◌∙◌, subst, arith, append_assoc, append-nil, Option, Bool, true, false, ◌==◌, zero, suc, length-drop, zero-add}
use Rattle.std.specs.Prelude.{option_map, slice_range, Some, None, not}
use Rattle.std.proofs.lemmas.Bool.Decides.{nat_tests}
use Rattle.tib_lex.specs.Grammar.{Word, begins_blank, spelling}
use Rattle.tib_lex.specs.Bytes.{is_blank}
use Rattle.tib_lex.specs.Next.{first, next, blanks, span}
use Rattle.tib_lex.specs.Laws.{kind_of}
use Rattle.tib_lex.proofs.Found.{found}
use Rattle.tib_lex.specs.declared.token.Token.{Token}
use Rattle.tib_lex.specs.declared.token.Lexed.{Lexed}
use Rattle.tib_lex.specs.declared.token.Lexed.TheVariants as lexed
use Rattle.tib_lex.proofs.LineWords.{takes}
use Rattle.tib_lex.proofs.LineAt.{shift, next_shift, same_slice, drops}
use Rattle.tib_transducer_file.specs.Pieces.{Piece, piece, pieces_after, pieces_in, pieces_of, pieces_at}

-- enough turns are enough
after_same : (f g : List ℕ → Option (List Piece)) (bytes : List ℕ) (r : Lexed) → ((t : Token) → r ≡ lexed.Token t → f (drop t.end bytes) ≡ g (drop t.end bytes)) → pieces_after f bytes r ≡ pieces_after g bytes r
after_same f g bytes lexed.End same = refl
after_same f g bytes (lexed.BadToken p) same = refl
after_same f g bytes (lexed.Token t) same = ap (λ (o : Option (List Piece)). option_map (λ pieces. piece (not (begins_blank bytes)) t.kind (slice_range bytes t.start t.end) ∷ pieces) o) (same t refl)

enough : (n m : ℕ) (bytes : List ℕ) → length bytes < n → length bytes < m → pieces_in n bytes ≡ pieces_in m bytes
enough zero m bytes p q = absurd (omega arith)
enough (suc n) zero bytes p q = absurd (omega arith)
enough (suc n) (suc m) bytes p q = after_same (λ rest. pieces_in n rest) (λ rest. pieces_in m rest) bytes (next bytes 0) (λ t e.
    let h = takes bytes t e in
    let d = length-drop t.end bytes in
    enough n m (drop t.end bytes) (omega (arith, h.0, h.1)) (omega (arith, h.0, h.1)))

-- the tokens of a line are its first token, and those of what is left
pub pieces_step : (bytes : List ℕ) (t : Token) → next bytes 0 ≡ lexed.Token t → pieces_of bytes ≡ option_map (λ pieces. piece (not (begins_blank bytes)) t.kind (slice_range bytes t.start t.end) ∷ pieces) (pieces_of (drop t.end bytes))
unfolding pieces_of
pieces_step bytes t e =
    let h = takes bytes t e in
    let d = length-drop t.end bytes in
    let k : pieces_in (length bytes) (drop t.end bytes) ≡ pieces_in (suc (length (drop t.end bytes))) (drop t.end bytes) = enough (length bytes) (suc (length (drop t.end bytes))) (drop t.end bytes) (omega (arith, h.0, h.1)) (omega arith) in
    rw (e, k) refl

-- a token follows directly where no white space comes first
begins_same : (bytes : List ℕ) → not (begins_blank bytes) ≡ (blanks bytes == 0)
begins_same [] = refl
begins_same (b ∷ rest) = by (is_blank b) refl
  where
    some : (n : ℕ) → ((1 + n) == 0) ≡ false
    some n = grind (arith, nat_tests)

    by : (c : Bool) → is_blank b ≡ c → not (begins_blank (b ∷ rest)) ≡ (blanks (b ∷ rest) == 0)
    by true e = rw e (sym (some (blanks rest)))
    by false e = rw e refl

start_is : (bytes : List ℕ) (at : ℕ) (t : Token) → first bytes at ≡ lexed.Token t → t.start ≡ at
start_is bytes at t e = let f = found bytes at t e in same t f.word at f.is
  where
    same : (t : Token) (word : Word) (at : ℕ) → lexed.Token t ≡ span (kind_of word) at (length (spelling word)) → t.start ≡ at
    same t word at e = cc

next_start : (bytes : List ℕ) (t : Token) → next bytes 0 ≡ lexed.Token t → t.start ≡ blanks bytes
unfolding next
next_start bytes t e = start_is (drop (blanks bytes) bytes) (0 + blanks bytes) t e ∙ zero-add (blanks bytes)

flag_is : (bytes : List ℕ) (at : ℕ) (t : Token) → next bytes 0 ≡ lexed.Token t → not (begins_blank bytes) ≡ (at + t.start == at)
flag_is bytes at t e =
    begins_same bytes ∙ ap (λ (n : ℕ). n == 0) (sym (next_start bytes t e)) ∙ same t.start
  where
    same : (n : ℕ) → (n == 0) ≡ (at + n == at)
    same zero = grind (arith, nat_tests)
    same (suc n) = grind (arith, nat_tests)

-- what the next token says of those that are left
abbrev PieceStep : List ℕ → ℕ → Lexed → Type 0
PieceStep line at lexed.End = pieces_of (drop at line) ≡ Some []
PieceStep line at (lexed.BadToken place) = pieces_of (drop at line) ≡ None
PieceStep line at (lexed.Token t) = pieces_of (drop at line) ≡ option_map (λ pieces. piece (t.start == at) t.kind (slice_range line t.start t.end) ∷ pieces) (pieces_of (drop t.end line))

seen : (line : List ℕ) (at : ℕ) (r : Lexed) → next (drop at line) 0 ≡ r → PieceStep line at (shift at r)
unfolding pieces_of
seen line at lexed.End e = rw e refl
seen line at (lexed.BadToken p) e = rw e refl
seen line at (lexed.Token t) e =
    pieces_step (drop at line) t e
    ∙ ap (λ (f : Bool). option_map (λ pieces. piece f t.kind (slice_range (drop at line) t.start t.end) ∷ pieces) (pieces_of (drop t.end (drop at line)))) (flag_is (drop at line) at t e)
    ∙ ap (λ (bytes : List ℕ). option_map (λ pieces. piece (at + t.start == at) t.kind bytes ∷ pieces) (pieces_of (drop t.end (drop at line)))) (same_slice line at t.start t.end)
    ∙ ap (λ (bytes : List ℕ). option_map (λ pieces. piece (at + t.start == at) t.kind (slice_range line (at + t.start) (at + t.end)) ∷ pieces) (pieces_of bytes)) (drops line at t.end)

step_of : (line : List ℕ) (at : ℕ) (r : Lexed) → next (drop at line) at ≡ r → PieceStep line at r
step_of line at r e = subst (λ (x : Lexed). PieceStep line at x) (sym (next_shift at (drop at line)) ∙ e) (seen line at (next (drop at line) 0) refl)

-- where the last of some tokens ends
abbrev pub last_end : ℕ → List Token → ℕ
last_end at [] = at
last_end at (t ∷ tokens) = last_end t.end tokens

pieces_more : (line : List ℕ) (at : ℕ) (tokens : List Token) (t : Token) → pieces_at line at (tokens ++ t ∷ []) ≡ pieces_at line at tokens ++ piece (t.start == last_end at tokens) t.kind (slice_range line t.start t.end) ∷ []
pieces_more line at [] t = refl
pieces_more line at (u ∷ tokens) t = ap (λ (ps : List Piece). piece (u.start == at) u.kind (slice_range line u.start u.end) ∷ ps) (pieces_more line u.end tokens t)

pub end_more : (at : ℕ) (tokens : List Token) (t : Token) → last_end at (tokens ++ t ∷ []) ≡ t.end
end_more at [] t = refl
end_more at (u ∷ tokens) t = end_more u.end tokens t

-- the tokens so far, and those that are left
abbrev pub so_far : (line : List ℕ) (tokens : List Token) (at : ℕ) → Option (List Piece)
so_far line tokens at = option_map (λ pieces. pieces_at line 0 tokens ++ pieces) (pieces_of (drop at line))

pub so_far_none : (line : List ℕ) → so_far line [] 0 ≡ pieces_of line
so_far_none line = same (pieces_of line)
  where
    same : (o : Option (List Piece)) → option_map (λ pieces. pieces) o ≡ o
    same None = refl
    same (Some pieces) = refl

pushed : (done : List Piece) (p : Piece) (o : Option (List Piece)) → option_map (λ pieces. (done ++ p ∷ []) ++ pieces) o ≡ option_map (λ pieces. done ++ pieces) (option_map (λ pieces. p ∷ pieces) o)
pushed done p None = refl
pushed done p (Some pieces) = ap Some (append_assoc done (p ∷ []) pieces)

pub so_far_token : (line : List ℕ) (tokens : List Token) (t : Token) (at : ℕ) → last_end 0 tokens ≡ at → next (drop at line) at ≡ lexed.Token t → so_far line (tokens ++ t ∷ []) t.end ≡ so_far line tokens at
so_far_token line tokens t at last e =
    ap (λ (ps : List Piece). option_map (λ pieces. ps ++ pieces) (pieces_of (drop t.end line))) (pieces_more line 0 tokens t)
    ∙ ap (λ (n : ℕ). option_map (λ pieces. (pieces_at line 0 tokens ++ piece (t.start == n) t.kind (slice_range line t.start t.end) ∷ []) ++ pieces) (pieces_of (drop t.end line))) last
    ∙ pushed (pieces_at line 0 tokens) (piece (t.start == at) t.kind (slice_range line t.start t.end)) (pieces_of (drop t.end line))
    ∙ ap (λ (o : Option (List Piece)). option_map (λ pieces. pieces_at line 0 tokens ++ pieces) o) (sym (step_of line at (lexed.Token t) e))

pub so_far_end : (line : List ℕ) (tokens : List Token) (at : ℕ) → next (drop at line) at ≡ lexed.End → so_far line tokens at ≡ Some (pieces_at line 0 tokens)
so_far_end line tokens at e = rw (step_of line at lexed.End e) (ap Some (append-nil (pieces_at line 0 tokens)))

pub so_far_bad : (line : List ℕ) (tokens : List Token) (at p : ℕ) → next (drop at line) at ≡ lexed.BadToken p → so_far line tokens at ≡ None
so_far_bad line tokens at p e = rw (step_of line at (lexed.BadToken p) e) refl
