-- A file has just the lines that are read from it.
use Rattle.std.proofs.Common.{◌≡◌, ℕ, ◌<◌, inl, inr, List, [], ◌∷◌, ◌++◌, length, refl, ap, sym, ◌∙◌, subst, arith, Bool, true, false}
use Rattle.std.specs.Prelude.{not, ◌==◌, ◌&&◌, cond}
use Rattle.std.specs.List.{list_all}
use Rattle.std.proofs.lemmas.Bool.Decides.{eqb_tells}
use Rattle.tib_lex.specs.Lines.{not_feed, push_byte, lines_of, HasNoFeed, HasLines}

no_feed_first : (c : Bool) (b : ℕ) (line : List ℕ) → c ≡ (b == 10) → (not c && list_all not_feed line) ≡ true → (c ≡ false) × (list_all not_feed line ≡ true)
no_feed_first true b line e h = cc
no_feed_first false b line e h = (refl, h)

-- bytes without a line feed are put in front of the first line
pushes : (line rest : List ℕ) (first : List ℕ) (lines : List (List ℕ)) → HasNoFeed line → lines_of rest ≡ first ∷ lines → lines_of (line ++ rest) ≡ (line ++ first) ∷ lines
pushes [] rest first lines h e = e
pushes (b ∷ line) rest first lines h e =
    let f = no_feed_first (b == 10) b line refl h in
    rw (f.0, pushes line rest first lines f.1 e) refl

last_line : (line : List ℕ) → HasNoFeed line → 0 < length line → lines_of line ≡ line ∷ []
last_line [] h some = absurd (omega arith)
last_line (b ∷ []) h some = let f = no_feed_first (b == 10) b [] refl h in rw f.0 refl
last_line (b ∷ (c ∷ line)) h some =
    let f = no_feed_first (b == 10) b (c ∷ line) refl h in
    rw (f.0, last_line (c ∷ line) f.1 (omega arith)) refl

append_none : (xs : List ℕ) → xs ++ [] ≡ xs
append_none [] = refl
append_none (x ∷ xs) = ap (λ (l : List ℕ). x ∷ l) (append_none xs)

pub lines_read : (lines : List (List ℕ)) (bytes : List ℕ) → HasLines lines bytes → lines_of bytes ≡ lines
lines_read [] bytes e = ap lines_of e
lines_read (line ∷ lines) bytes (free, inl last) =
    ap lines_of last.is ∙ last_line line free last.some ∙ ap (λ (ls : List (List ℕ)). line ∷ ls) (sym last.last)
lines_read (line ∷ lines) bytes (free, inr (rest, is, others)) =
    ap lines_of is
    ∙ pushes line (10 ∷ rest) [] (lines_of rest) free refl
    ∙ ap (λ (l : List ℕ). l ∷ lines_of rest) (append_none line)
    ∙ ap (λ (ls : List (List ℕ)). line ∷ ls) (lines_read lines rest others)

-- a byte that is no line feed in front
more_free : (b : ℕ) (line : List ℕ) → (b == 10) ≡ false → HasNoFeed line → HasNoFeed (b ∷ line)
more_free b line e h = rw e h

in_front : (b : ℕ) (rest : List ℕ) (lines : List (List ℕ)) → (b == 10) ≡ false → HasLines lines rest → HasLines (push_byte b lines) (b ∷ rest)
in_front b rest [] e h = (more_free b [] e refl, inl (record { last = refl; is = ap (λ (l : List ℕ). b ∷ l) h; some = omega arith }))
in_front b rest (line ∷ lines) e (free, inl last) =
    (more_free b line e free, inl (record { last = last.last; is = ap (λ (l : List ℕ). b ∷ l) last.is; some = omega arith }))
in_front b rest (line ∷ lines) e (free, inr (more, is, others)) =
    (more_free b line e free, inr (more, ap (λ (l : List ℕ). b ∷ l) is, others))

has_first : (c : Bool) (b : ℕ) (rest : List ℕ) → c ≡ (b == 10) → HasLines (lines_of rest) rest → HasLines (cond c ([] ∷ lines_of rest) (push_byte b (lines_of rest))) (b ∷ rest)
has_first true b rest e h =
    let ten : b ≡ 10 = elim (eqb_tells b 10) [ inl k ↦ k.1 | inr k ↦ cc ] in
    (refl, inr (rest, ap (λ (x : ℕ). x ∷ rest) ten, h))
has_first false b rest e h = in_front b rest (lines_of rest) (sym e) h

has_own : (bytes : List ℕ) → HasLines (lines_of bytes) bytes
has_own [] = refl
has_own (b ∷ rest) = has_first (b == 10) b rest refl (has_own rest)

pub lines_split : (lines : List (List ℕ)) (bytes : List ℕ) → (HasLines lines bytes → lines_of bytes ≡ lines) × (lines_of bytes ≡ lines → HasLines lines bytes)
lines_split lines bytes = (lines_read lines bytes, λ e. subst (λ (ls : List (List ℕ)). HasLines ls bytes) e (has_own bytes))
