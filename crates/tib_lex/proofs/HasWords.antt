-- A line has just the tokens that are read from it.
use Rattle.std.proofs.Common.{◌≡◌, ℕ, ◌+◌, ◌-◌, ◌<◌, inl, inr, true, false, List, [], ◌∷◌, ◌++◌, length, take, drop, refl, ap, sym, ◌∙◌, subst, arith, Option, length-append, zero, suc, zero-add}
use Rattle.std.specs.Prelude.{Some, None, ◌==◌, ◌||◌, option_map, slice_range, nat_lt}
use Rattle.std.specs.List.{list_all}
use Rattle.std.proofs.lemmas.Bool.Decides.{nat_tests}
use Rattle.std.proofs.lemmas.List.{length-drop}
use Rattle.std.proofs.Math.Seq.{take-append_seam}
use Rattle.tib_lex.specs.Bytes.{is_blank, is_name_byte}
use Rattle.tib_lex.specs.Grammar.{Word, open_, close, hash, arrow, name, label, escape, spelling, IsName, IsWord, MayPrecede, Begins, begins_blank, IsQuiet, HasWords, IsBad, IsBadAfter, HasBadToken}
use Rattle.tib_lex.specs.Next.{first, next, blanks, span, name_token, quoted, quoted_token}
use Rattle.tib_lex.specs.Laws.{kind_of, Found}
use Rattle.tib_lex.specs.Reads.{Reads}
use Rattle.tib_lex.specs.Line.{unescape, words_after, words_in, words_of, word_of}
use Rattle.tib_lex.specs.declared.token.Kind.TheVariants as kinds
use Rattle.tib_lex.specs.declared.token.Token.{Token}
use Rattle.tib_lex.specs.declared.token.Lexed.{Lexed}
use Rattle.tib_lex.specs.declared.token.Lexed.TheVariants as lexed
use Rattle.tib_lex.proofs.Quotes.{ne-eqb}
use Rattle.tib_lex.proofs.Spelled.{and_true, or_false, run_of, first_again}
use Rattle.tib_lex.proofs.Found.{found, which}
use Rattle.tib_lex.proofs.LineWords.{takes, words_step}
use Rattle.tib_lex.proofs.Booleans.{bool_cases, and-both}
use Rattle.tib_lex.proofs.Lists.{some_same}
use Rattle.tib_lex.proofs.Numbers.{byte_same}

-- no token begins with white space
above : (b : ℕ) → is_name_byte b ≡ true → 32 < b
above b e =
    let h1 = and_true _ _ e in
    let h2 = and_true _ _ h1.0 in
    let h3 = and_true _ _ h2.0 in
    let h4 = and_true _ _ h3.0 in
    let h5 = and_true _ _ h4.0 in
    let h6 = and_true _ _ h5.0 in
    let lt : nat_lt 32 b ≡ true = h6.0 in
    grind (arith, nat_tests)

name_black : (b : ℕ) → is_name_byte b ≡ true → is_blank b ≡ false
name_black b e = let h = above b e in rw (ne-eqb b 32 (λ k. omega arith), ne-eqb b 9 (λ k. omega arith), ne-eqb b 13 (λ k. omega arith)) refl

pub no_blanks : (bytes : List ℕ) → begins_blank bytes ≡ false → blanks bytes ≡ 0
no_blanks [] e = refl
no_blanks (b ∷ bytes) e = rw e refl

black_name : (text rest : List ℕ) → IsName text → begins_blank (text ++ rest) ≡ false
black_name [] rest w = absurd (omega (arith, w.some))
black_name (b ∷ text) rest w = name_black b (and_true (is_name_byte b) (list_all is_name_byte text) w.bytes).0

-- a word begins with no blank
pub black_word : (word : Word) (rest : List ℕ) → IsWord word → begins_blank (spelling word ++ rest) ≡ false
black_word open_ rest w = refl
black_word close rest w = refl
black_word hash rest w = refl
black_word arrow rest w = refl
black_word (name text) rest w = black_name text rest w
black_word (label text) rest w = refl

black_quiet : (bytes : List ℕ) → IsQuiet bytes → begins_blank bytes ≡ false
black_quiet [] h = refl
black_quiet (b ∷ bytes) h = rw h refl

drop_front : (xs ys : List ℕ) → drop (length xs) (xs ++ ys) ≡ ys
drop_front [] ys = refl
drop_front (x ∷ xs) ys = drop_front xs ys

drop_more : (xs ys : List ℕ) (n : ℕ) → drop (length xs + n) (xs ++ ys) ≡ drop n ys
drop_more [] ys n = ap (λ (m : ℕ). drop m ys) (zero-add n)
drop_more (x ∷ xs) ys n = let e : suc (length xs) + n ≡ suc (length xs + n) = omega arith in rw e (drop_more xs ys n)

-- the next token is the first one after the white space
pub next_at : (bl rest : List ℕ) → list_all is_blank bl ≡ true → begins_blank rest ≡ false → next (bl ++ rest) 0 ≡ first rest (length bl)
unfolding next
next_at bl rest white black =
    let e : blanks (bl ++ rest) ≡ length bl = run_of is_blank bl rest white (no_blanks rest black) in
    ap (λ (n : ℕ). first (drop n (bl ++ rest)) (0 + n)) e ∙ ap (λ (xs : List ℕ). first xs (0 + length bl)) (drop_front bl rest) ∙ ap (first rest) (zero-add (length bl))

-- the white space at the front, and what follows it
pub record Blanks (bytes : List ℕ) : Type 0 where
  pub front : List ℕ
  pub back : List ℕ
  pub parts : bytes ≡ front ++ back
  pub white : list_all is_blank front ≡ true
  pub black : begins_blank back ≡ false

blank_more : (b : ℕ) (bytes : List ℕ) → is_blank b ≡ true → Blanks bytes → Blanks (b ∷ bytes)
blank_more b bytes e r = record {
  front = b ∷ r.front;
  back = r.back;
  parts = ap (λ (l : List ℕ). b ∷ l) r.parts;
  white = and-both (is_blank b) (list_all is_blank r.front) e r.white;
  black = r.black;
}

pub split_blanks : (bytes : List ℕ) → Blanks bytes
split_blanks [] = record { front = []; back = []; parts = refl; white = refl; black = refl }
split_blanks (b ∷ bytes) = elim (bool_cases (is_blank b)) [
  | inl e ↦ blank_more b bytes e (split_blanks bytes)
  | inr e ↦ record { front = []; back = b ∷ bytes; parts = refl; white = refl; black = e }
]

-- escapes are taken back
unescape_plain : (b : ℕ) (xs : List ℕ) → (b == 92) ≡ false → unescape (b ∷ xs) ≡ b ∷ unescape xs
unescape_plain b [] e = refl
unescape_plain b (x ∷ xs) e = rw e refl

pub unescape_escape : (text : List ℕ) → unescape (escape text) ≡ text
unescape_escape [] = refl
unescape_escape (b ∷ text) = elim (bool_cases (b == 34 || b == 92)) [
  | inl special ↦ rw special (ap (λ (l : List ℕ). b ∷ l) (unescape_escape text))
  | inr plain ↦
      let h = or_false (b == 34) (b == 92) plain in
      rw plain (unescape_plain b (escape text) h.1 ∙ ap (λ (l : List ℕ). b ∷ l) (unescape_escape text))
]

inner_text : (text : List ℕ) → slice_range (34 ∷ (escape text ++ 34 ∷ [])) 1 (length (34 ∷ (escape text ++ 34 ∷ [])) - 1) ≡ escape text
inner_text text =
    let l = length-append (escape text) (34 ∷ []) in
    let n : length (34 ∷ (escape text ++ 34 ∷ [])) - 1 - 1 ≡ length (escape text) = omega (arith, l) in
    ap (λ (m : ℕ). take m (escape text ++ 34 ∷ [])) n ∙ take-append_seam (escape text) (34 ∷ [])

pub word_again : (word : Word) → word_of (kind_of word) (spelling word) ≡ word
word_again open_ = refl
word_again close = refl
word_again hash = refl
word_again arrow = refl
word_again (name text) = refl
word_again (label text) = ap (λ (l : List ℕ). label (unescape l)) (inner_text text) ∙ ap label (unescape_escape text)

pub slice_there : (bl xs rest : List ℕ) → slice_range (bl ++ (xs ++ rest)) (length bl) (length bl + length xs) ≡ xs
slice_there bl xs rest =
    let n : length bl + length xs - length bl ≡ length xs = omega arith in
    ap (λ (l : List ℕ). take (length bl + length xs - length bl) l) (drop_front bl (xs ++ rest)) ∙ ap (λ (m : ℕ). take m (xs ++ rest)) n ∙ take-append_seam xs rest

pub drop_there : (bl xs rest : List ℕ) → drop (length bl + length xs) (bl ++ (xs ++ rest)) ≡ rest
drop_there bl xs rest = drop_more bl (xs ++ rest) (length xs) ∙ drop_front xs rest

abbrev pub token_of : Word → ℕ → Token
token_of word at = record { kind = kind_of word; start = at; end = at + length (spelling word) }

word_there : (bl : List ℕ) (word : Word) (rest : List ℕ) → word_of (kind_of word) (slice_range (bl ++ (spelling word ++ rest)) (length bl) (length bl + length (spelling word))) ≡ word
word_there bl word rest = ap (word_of (kind_of word)) (slice_there bl (spelling word) rest) ∙ word_again word

pub next_word : (bl : List ℕ) (word : Word) (rest : List ℕ) → list_all is_blank bl ≡ true → IsWord word → MayPrecede word rest → next (bl ++ (spelling word ++ rest)) 0 ≡ lexed.Token (token_of word (length bl))
next_word bl word rest white w p = next_at bl (spelling word ++ rest) white (black_word word rest w) ∙ first_again word rest (length bl) w p

-- a word at the front, and what is read after it
first_word : (bl : List ℕ) (word : Word) (rest : List ℕ) → list_all is_blank bl ≡ true → IsWord word → MayPrecede word rest → words_of (bl ++ (spelling word ++ rest)) ≡ option_map (λ words. word ∷ words) (words_of rest)
first_word bl word rest white w p =
    words_step (bl ++ (spelling word ++ rest)) (token_of word (length bl)) (next_word bl word rest white w p)
    ∙ ap (λ (x : Word). option_map (λ words. x ∷ words) (words_of (drop (length bl + length (spelling word)) (bl ++ (spelling word ++ rest))))) (word_there bl word rest)
    ∙ ap (λ (l : List ℕ). option_map (λ words. word ∷ words) (words_of l)) (drop_there bl (spelling word) rest)

pub behind : (bytes bl rest more : List ℕ) (word : Word) → bytes ≡ bl ++ rest → Begins rest word more → bytes ≡ bl ++ (spelling word ++ more)
behind bytes bl rest more word e b = e ∙ ap (λ (l : List ℕ). bl ++ l) b.spelled

quiet_end : (bytes : List ℕ) (at : ℕ) → IsQuiet bytes → first bytes at ≡ lexed.End
unfolding first
quiet_end [] at h = refl
quiet_end (b ∷ bytes) at h = rw h refl

words_end : (bytes : List ℕ) → next bytes 0 ≡ lexed.End → words_of bytes ≡ Some []
unfolding words_of
words_end bytes e = rw e refl

words_bad : (bytes : List ℕ) (p : ℕ) → next bytes 0 ≡ lexed.BadToken p → words_of bytes ≡ None
unfolding words_of
words_bad bytes p e = rw e refl

pub words_read : (words : List Word) (bytes : List ℕ) → HasWords words bytes → words_of bytes ≡ Some words
words_read [] bytes h =
    ap words_of h.parts ∙ words_end (h.blanks ++ h.rest) (next_at h.blanks h.rest h.white (black_quiet h.rest h.are) ∙ quiet_end h.rest (length h.blanks) h.are)
words_read (word ∷ words) bytes h =
    let b = h.are.1 in
    ap words_of (behind bytes h.blanks h.rest h.are.0 word h.parts b)
    ∙ first_word h.blanks word h.are.0 h.white b.is_word b.whole
    ∙ ap (λ (o : Option (List Word)). option_map (λ ws. word ∷ ws) o) (words_read words h.are.0 h.are.2)

-- the other way
quiet_name : (b : ℕ) (bytes : List ℕ) (at : ℕ) → name_token at (b ∷ bytes) ≡ lexed.End → IsQuiet (b ∷ bytes)
quiet_name b bytes at e = absurd (cc)

quiet_quote : (b : ℕ) (bytes : List ℕ) (at : ℕ) (o : Option ℕ) → quoted_token at o ≡ lexed.End → IsQuiet (b ∷ bytes)
quiet_quote b bytes at None e = let bad : lexed.BadToken at ≡ lexed.End = e in absurd (cc)
quiet_quote b bytes at (Some n) e = let bad : span kinds.Quoted at (1 + n) ≡ lexed.End = e in absurd (cc)

quiet_span : (k : ℕ) (b : ℕ) (bytes : List ℕ) (t : Token) → lexed.Token t ≡ lexed.End → IsQuiet (b ∷ bytes)
quiet_span k b bytes t e = absurd (cc)

quiet_bad : (b at : ℕ) (bytes : List ℕ) → lexed.BadToken at ≡ lexed.End → IsQuiet (b ∷ bytes)
quiet_bad b at bytes e = absurd (cc)

quiet_alone : (bytes : List ℕ) (at : ℕ) → first bytes at ≡ lexed.End → IsQuiet bytes
unfolding first
quiet_alone [] at e = tt
quiet_alone (b ∷ bytes) at e = elim (which (is_name_byte b) _ _ _ e) [
  | inl h ↦ quiet_name b bytes at h.1
  | inr h ↦ elim (which (b == 37) _ _ _ h.1) [
    | inl k ↦ byte_same b 37 k.0
    | inr k ↦ elim (which (b == 40) _ _ _ k.1) [
      | inl m ↦ quiet_span at b bytes _ m.1
      | inr m ↦ elim (which (b == 41) _ _ _ m.1) [
        | inl n ↦ quiet_span at b bytes _ n.1
        | inr n ↦ elim (which (b == 35) _ _ _ n.1) [
          | inl o ↦ quiet_span at b bytes _ o.1
          | inr o ↦ elim (which (b == 34) _ _ _ o.1) [
            | inl p ↦ quiet_quote b bytes at (quoted bytes) p.1
            | inr p ↦ quiet_bad b at bytes p.1
          ]
        ]
      ]
    ]
  ]
]

-- what is read at bytes that white space does not begin
abbrev pub Means : List ℕ → ℕ → Lexed → Type 0
Means bytes at lexed.End = IsQuiet bytes
Means bytes at (lexed.BadToken p) = IsBad bytes
Means bytes at (lexed.Token t) = Found bytes at (lexed.Token t)

no_word_of : (bytes : List ℕ) (at p : ℕ) → first bytes at ≡ lexed.BadToken p → (word : Word) (rest : List ℕ) → Begins bytes word rest → ⊥
no_word_of bytes at p e word rest b =
    let f : first bytes at ≡ span (kind_of word) at (length (spelling word)) = ap (λ (l : List ℕ). first l at) b.spelled ∙ first_again word rest at b.is_word b.whole in
    let bad : lexed.BadToken p ≡ span (kind_of word) at (length (spelling word)) = sym e ∙ f in
    cc

loud_of : (bytes : List ℕ) (at p : ℕ) → first bytes at ≡ lexed.BadToken p → IsQuiet bytes → ⊥
loud_of bytes at p e q = let bad : lexed.BadToken p ≡ lexed.End = sym e ∙ quiet_end bytes at q in cc

pub means : (bytes : List ℕ) (at : ℕ) (r : Lexed) → begins_blank bytes ≡ false → first bytes at ≡ r → Means bytes at r
means bytes at lexed.End black e = quiet_alone bytes at e
means bytes at (lexed.BadToken p) black e = record { loud = loud_of bytes at p e; black = black; no_word = no_word_of bytes at p e }
means bytes at (lexed.Token t) black e = found bytes at t e

-- a token with the kind and the length of a word is the token of the word
pub same_token : (t : Token) (word : Word) (at : ℕ) → lexed.Token t ≡ span (kind_of word) at (length (spelling word)) → t ≡ token_of word at
same_token t word at e = cc

-- the word that was read, in front of what is read after it
pub token_word : (bytes bl back : List ℕ) (t : Token) (f : Found back (length bl) (lexed.Token t)) → bytes ≡ bl ++ back → (word_of t.kind (slice_range bytes t.start t.end) ≡ f.word) × (drop t.end bytes ≡ f.rest)
token_word bytes bl back t f e =
    let same : t ≡ token_of f.word (length bl) = same_token t f.word (length bl) f.is in
    let parts : bytes ≡ bl ++ (spelling f.word ++ f.rest) = behind bytes bl back f.rest f.word e f.begins in (
      ap (λ (u : Token). word_of u.kind (slice_range bytes u.start u.end)) same
          ∙ ap (λ (l : List ℕ). word_of (kind_of f.word) (slice_range l (length bl) (length bl + length (spelling f.word)))) parts ∙ word_there bl f.word f.rest,
      ap (λ (u : Token). drop u.end bytes) same ∙ ap (λ (l : List ℕ). drop (length bl + length (spelling f.word)) l) parts ∙ drop_there bl (spelling f.word) f.rest,
    )

put_before : (w : Word) (o : Option (List Word)) (words : List Word) → option_map (λ ws. w ∷ ws) o ≡ Some words → (more : List Word) × (o ≡ Some more) × (words ≡ w ∷ more)
put_before w None words e = let bad : None ≡ Some words = e in absurd (cc)
put_before w (Some more) words e = (more, refl, cc)

put_none : (w : Word) (o : Option (List Word)) → option_map (λ ws. w ∷ ws) o ≡ None → o ≡ None
put_none w None e = refl
put_none w (Some more) e = let bad : Some (w ∷ more) ≡ None = e in absurd (cc)

has_after : (n : ℕ) (words : List Word) (bytes : List ℕ) (s : Blanks bytes) (r : Lexed) → Means s.back (length s.front) r → ((more : List Word) (rest : List ℕ) → words_in n rest ≡ Some more → HasWords more rest) → words_after (λ rest. words_in n rest) bytes r ≡ Some words → HasWords words bytes
has_after n words bytes s lexed.End m ih e =
    let none : [] ≡ words = cc in
    subst (λ (ws : List Word). HasWords ws bytes) none (record { blanks = s.front; rest = s.back; parts = s.parts; white = s.white; are = m })
has_after n words bytes s (lexed.BadToken p) m ih e = let bad : None ≡ Some words = e in absurd (cc)
has_after n words bytes s (lexed.Token t) m ih e =
    let tw = token_word bytes s.front s.back t m s.parts in
    let p = put_before (word_of t.kind (slice_range bytes t.start t.end)) (words_in n (drop t.end bytes)) words e in
    let h : HasWords p.0 m.rest = ih p.0 m.rest (ap (λ (l : List ℕ). words_in n l) (sym tw.1) ∙ p.1) in
    let same : m.word ∷ p.0 ≡ words = ap (λ (w : Word). w ∷ p.0) (sym tw.0) ∙ sym p.2 in
    subst (λ (ws : List Word). HasWords ws bytes) same (record { blanks = s.front; rest = s.back; parts = s.parts; white = s.white; are = (m.rest, m.begins, h) })

next_of : (bytes : List ℕ) (s : Blanks bytes) → next bytes 0 ≡ first s.back (length s.front)
next_of bytes s = ap (λ (l : List ℕ). next l 0) s.parts ∙ next_at s.front s.back s.white s.black

pub means_of : (bytes : List ℕ) (s : Blanks bytes) → Means s.back (length s.front) (next bytes 0)
means_of bytes s = means s.back (length s.front) (next bytes 0) s.black (sym (next_of bytes s))

has_in : (n : ℕ) (words : List Word) (bytes : List ℕ) → words_in n bytes ≡ Some words → HasWords words bytes
has_in zero words bytes e = let bad : None ≡ Some words = e in absurd (cc)
has_in (suc n) words bytes e =
    has_after n words bytes (split_blanks bytes) (next bytes 0) (means_of bytes (split_blanks bytes)) (has_in n) e

pub words_had : (words : List Word) (bytes : List ℕ) → words_of bytes ≡ Some words → HasWords words bytes
unfolding words_of
words_had words bytes e = has_in (suc (length bytes)) words bytes e

-- where one is bad
bad_first : (bytes : List ℕ) (at : ℕ) (r : Lexed) → IsBad bytes → first bytes at ≡ r → (p : ℕ) × (first bytes at ≡ lexed.BadToken p)
bad_first bytes at lexed.End b e = absurd (b.loud (quiet_alone bytes at e))
bad_first bytes at (lexed.BadToken p) b e = (p, e)
bad_first bytes at (lexed.Token t) b e = let f = found bytes at t e in absurd (b.no_word f.word f.rest f.begins)

pub bad_read : (words : List Word) (bytes : List ℕ) → IsBadAfter words bytes → words_of bytes ≡ None
bad_read [] bytes h =
    let b = bad_first h.rest (length h.blanks) (first h.rest (length h.blanks)) h.are refl in
    ap words_of h.parts ∙ words_bad (h.blanks ++ h.rest) b.0 (next_at h.blanks h.rest h.white h.are.black ∙ b.1)
bad_read (word ∷ words) bytes h =
    let b = h.are.1 in
    ap words_of (behind bytes h.blanks h.rest h.are.0 word h.parts b)
    ∙ first_word h.blanks word h.are.0 h.white b.is_word b.whole
    ∙ ap (λ (o : Option (List Word)). option_map (λ ws. word ∷ ws) o) (bad_read words h.are.0 h.are.2)

bad_after : (n : ℕ) (bytes : List ℕ) (s : Blanks bytes) (r : Lexed) → Means s.back (length s.front) r → ((t : Token) → r ≡ lexed.Token t → words_in n (drop t.end bytes) ≡ None → HasBadToken (drop t.end bytes)) → words_after (λ rest. words_in n rest) bytes r ≡ None → HasBadToken bytes
bad_after n bytes s lexed.End m ih e = let bad : Some [] ≡ None = e in absurd (cc)
bad_after n bytes s (lexed.BadToken p) m ih e = ([], record { blanks = s.front; rest = s.back; parts = s.parts; white = s.white; are = m })
bad_after n bytes s (lexed.Token t) m ih e =
    let tw = token_word bytes s.front s.back t m s.parts in
    let h = ih t refl (put_none (word_of t.kind (slice_range bytes t.start t.end)) (words_in n (drop t.end bytes)) e) in
    (m.word ∷ h.0, record { blanks = s.front; rest = s.back; parts = s.parts; white = s.white; are = (m.rest, m.begins, subst (λ (l : List ℕ). IsBadAfter h.0 l) tw.1 h.1) })

bad_in : (n : ℕ) (bytes : List ℕ) → length bytes < n → words_in n bytes ≡ None → HasBadToken bytes
bad_in zero bytes few e = absurd (omega arith)
bad_in (suc n) bytes few e =
    bad_after n bytes (split_blanks bytes) (next bytes 0) (means_of bytes (split_blanks bytes))
    (λ t is none.
    let h = takes bytes t is in
    let d = length-drop t.end bytes in
    bad_in n (drop t.end bytes) (omega (arith, h.0, h.1)) none) e

pub bad_had : (bytes : List ℕ) → words_of bytes ≡ None → HasBadToken bytes
unfolding words_of
bad_had bytes e = bad_in (suc (length bytes)) bytes (omega arith) e

pub words_exact : (words : List Word) (bytes : List ℕ) → (HasWords words bytes → words_of bytes ≡ Some words) × (words_of bytes ≡ Some words → HasWords words bytes)
words_exact words bytes = (words_read words bytes, words_had words bytes)

pub bad_exact : (bytes : List ℕ) → (HasBadToken bytes → words_of bytes ≡ None) × (words_of bytes ≡ None → HasBadToken bytes)
bad_exact bytes = (λ h. bad_read h.0 bytes h.1, bad_had bytes)

next_behind : (bl rest : List ℕ) (at : ℕ) → list_all is_blank bl ≡ true → begins_blank rest ≡ false → next (bl ++ rest) at ≡ first rest (at + length bl)
unfolding next
next_behind bl rest at white black =
    let e : blanks (bl ++ rest) ≡ length bl = run_of is_blank bl rest white (no_blanks rest black) in
    ap (λ (n : ℕ). first (drop n (bl ++ rest)) (at + n)) e ∙ ap (λ (xs : List ℕ). first xs (at + length bl)) (drop_front bl rest)

reads_at : (bytes : List ℕ) (at : ℕ) (s : Blanks bytes) (r : Lexed) → Means s.back (at + length s.front) r → Reads bytes at r
reads_at bytes at s lexed.End m = record { blanks = s.front; rest = s.back; parts = s.parts; white = s.white; are = m }
reads_at bytes at s (lexed.BadToken p) m = record { blanks = s.front; rest = s.back; parts = s.parts; white = s.white; are = m }
reads_at bytes at s (lexed.Token t) m = record { blanks = s.front; rest = s.back; parts = s.parts; white = s.white; found = m }

reads_split : (bytes : List ℕ) (at : ℕ) (s : Blanks bytes) → Reads bytes at (next bytes at)
reads_split bytes at s =
    let e : next bytes at ≡ first s.back (at + length s.front) = ap (λ (l : List ℕ). next l at) s.parts ∙ next_behind s.front s.back at s.white s.black in
    reads_at bytes at s (next bytes at) (means s.back (at + length s.front) (next bytes at) s.black (sym e))

-- what is read from a place on
pub reads : (bytes : List ℕ) (at : ℕ) (r : Lexed) → r ≡ next bytes at → Reads bytes at r
reads bytes at r e = subst (λ (x : Lexed). Reads bytes at x) (sym e) (reads_split bytes at (split_blanks bytes))

-- a word at the front of a line is its first token
pub has_first_word : (word : Word) (words : List Word) (rest : List ℕ) → IsWord word → MayPrecede word rest → HasWords words rest → HasWords (word ∷ words) (spelling word ++ rest)
has_first_word word words rest w p h = record { blanks = []; rest = spelling word ++ rest; parts = refl; white = refl; are = (rest, record { is_word = w; spelled = refl; whole = p }, h) }

-- a blank in front of a line changes no token
pub after_space : (words : List Word) (bytes : List ℕ) → HasWords words bytes → HasWords words (32 ∷ bytes)
after_space [] bytes h = record { blanks = 32 ∷ h.blanks; rest = h.rest; parts = ap (λ (l : List ℕ). 32 ∷ l) h.parts; white = h.white; are = h.are }
after_space (word ∷ words) bytes h = record { blanks = 32 ∷ h.blanks; rest = h.rest; parts = ap (λ (l : List ℕ). 32 ∷ l) h.parts; white = h.white; are = h.are }

-- an empty line has no tokens
pub no_words : HasWords [] []
no_words = record { blanks = []; rest = []; parts = refl; white = refl; are = tt }

-- a line has one list of tokens
pub words_once : (line : List ℕ) (ws vs : List Word) → HasWords ws line → HasWords vs line → ws ≡ vs
words_once line ws vs h k = some_same ws vs (sym (words_read ws line h) ∙ words_read vs line k)
