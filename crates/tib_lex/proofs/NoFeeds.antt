-- No line feed is in a line, nor in the texts of its tokens.
use Rattle.std.proofs.Common.{◌≡◌, ℕ, ◌+◌, ◌-◌, List, [], ◌∷◌, take, drop, Bool, true, false, refl, arith, zero, suc}
use Rattle.std.specs.Prelude.{◌==◌, cond, slice_range, length}
use Rattle.std.specs.List.{list_all, prefix_len}
use Rattle.tib_lex.specs.Lines.{not_feed, HasNoFeed}
use Rattle.tib_lex.specs.NextLine.{IsNextLine}
use Rattle.tib_lex.specs.Line.{unescape, word_of, word_at, text_of}
use Rattle.tib_lex.specs.declared.lines.Line.{Line}
use Rattle.tib_lex.specs.declared.token.Kind.{Kind}
use Rattle.tib_lex.specs.declared.token.Kind.TheVariants as kinds
use Rattle.tib_lex.specs.declared.token.Token.{Token}
use Rattle.tib_lex.proofs.Booleans.{and-true, and-both}

taken : (p : ℕ → Bool) (n : ℕ) (xs : List ℕ) → list_all p xs ≡ true → list_all p (take n xs) ≡ true
taken p zero xs h = refl
taken p (suc n) [] h = refl
taken p (suc n) (x ∷ xs) h = let b = and-true (p x) (list_all p xs) h in and-both (p x) (list_all p (take n xs)) b.0 (taken p n xs b.1)

dropped : (p : ℕ → Bool) (n : ℕ) (xs : List ℕ) → list_all p xs ≡ true → list_all p (drop n xs) ≡ true
dropped p zero xs h = h
dropped p (suc n) [] h = refl
dropped p (suc n) (x ∷ xs) h = dropped p n xs (and-true (p x) (list_all p xs) h).1

run_step : (p : ℕ → Bool) (x : ℕ) (xs : List ℕ) (b : Bool) (n : ℕ) → p x ≡ b → list_all p (take n xs) ≡ true → list_all p (take (cond b (1 + n) 0) (x ∷ xs)) ≡ true
run_step p x xs true n e h = let one : 1 + n ≡ suc n = omega arith in rw one (and-both (p x) (list_all p (take n xs)) e h)
run_step p x xs false n e h = refl

first_run : (p : ℕ → Bool) (xs : List ℕ) → list_all p (take (prefix_len p xs) xs) ≡ true
first_run p [] = refl
first_run p (x ∷ xs) = run_step p x xs (p x) (prefix_len p xs) refl (first_run p xs)

unescape_step : (t : Bool) (b c : ℕ) (rest : List ℕ) → HasNoFeed (b ∷ (c ∷ rest)) → HasNoFeed (unescape rest) → HasNoFeed (unescape (c ∷ rest)) → HasNoFeed (cond t (c ∷ unescape rest) (b ∷ unescape (c ∷ rest)))
unescape_step true b c rest h e f =
    let more = (and-true (not_feed b) (list_all not_feed (c ∷ rest)) h).1 in
    and-both (not_feed c) (list_all not_feed (unescape rest)) (and-true (not_feed c) (list_all not_feed rest) more).0 e
unescape_step false b c rest h e f = and-both (not_feed b) (list_all not_feed (unescape (c ∷ rest))) (and-true (not_feed b) (list_all not_feed (c ∷ rest)) h).0 f

-- a text without line feed has none once its escapes are taken out
pub unescaped : (xs : List ℕ) → HasNoFeed xs → HasNoFeed (unescape xs)
unescaped [] h = refl
unescaped (b ∷ []) h = h
unescaped (b ∷ (c ∷ rest)) h =
    let more = (and-true (not_feed b) (list_all not_feed (c ∷ rest)) h).1 in
    unescape_step (b == 92) b c rest h (unescaped rest (and-true (not_feed c) (list_all not_feed rest) more).1) (unescaped (c ∷ rest) more)

word_plain : (kind : Kind) (text : List ℕ) → HasNoFeed text → HasNoFeed (text_of (word_of kind text))
word_plain kinds.Open text h = refl
word_plain kinds.Close text h = refl
word_plain kinds.Hash text h = refl
word_plain kinds.Arrow text h = refl
word_plain kinds.Name text h = h
word_plain kinds.Quoted text h = unescaped (slice_range text 1 (length text - 1)) (taken not_feed (length text - 1 - 1) (drop 1 text) (dropped not_feed 1 text h))

-- nor is there one in the text of a token
pub text_plain : (line : List ℕ) (t : Token) → HasNoFeed line → HasNoFeed (text_of (word_at line t))
text_plain line t h = word_plain t.kind (slice_range line t.start t.end) (taken not_feed (t.end - t.start) (drop t.start line) (dropped not_feed t.start line h))

-- a line that is read has none
pub line_plain : (bytes : List ℕ) (number at : ℕ) (line : Line) → IsNextLine bytes number at line → HasNoFeed (slice_range bytes line.start line.end)
line_plain bytes number at line is =
    let e : line.end - line.start ≡ prefix_len not_feed (drop at bytes) = omega (arith, is.ends, is.starts) in
    let s : line.start ≡ at = is.starts in
    rw (e, s) (first_run not_feed (drop at bytes))
