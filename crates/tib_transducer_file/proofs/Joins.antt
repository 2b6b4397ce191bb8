-- The words of a left side, one after another.
use Rattle.std.proofs.Common.{◌≡◌, ℕ, ◌+◌, ◌<◌, ◌≤◌, List, [], ◌∷◌, ◌++◌, length, get_or, drop, drop-cons, add-one, refl, ap, sym, ◌∙◌, arith, append_assoc, append-nil, Bool, true, false}
use Rattle.std.specs.Prelude.{◌&&◌, ◌==◌, slice_range, not}
use Rattle.std.specs.List.{All, prefix_len}
use Rattle.std.proofs.lemmas.List.{map-append, drop-drop, drop_all}
use Rattle.tib_lex.specs.Grammar.{Word, name}
use Rattle.tib_lex.specs.Line.{word_at, words_at, Lies}
use Rattle.tib_lex.specs.declared.token.Token.{Token}
use Rattle.tib_lex.specs.declared.token.Kind.TheVariants as kinds
use Rattle.tib_lex.proofs.Numbers.{byte_same}
use Rattle.tib_lex.proofs.Spelled.{and_true}
use Rattle.tib_transducer_file.specs.Pieces.{pieces_at}
use Rattle.tib_transducer_file.specs.Forms.{is_kind, takes, joins}
use Rattle.tib_transducer_file.specs.Found.{bytes_at}
use Rattle.tib_transducer_file.proofs.Slices.{slice_joined}

-- one token for a name and the quoted token after it
abbrev pub both : Token → Token → Token
both t u = record { kind = kinds.Name; start = t.start; end = u.end }

abbrev pub are_joined : Token → Token → Bool
are_joined t u = is_kind kinds.Name t.kind && is_kind kinds.Quoted u.kind && u.start == t.end

both_true : (x d : Bool) → x ≡ true → d ≡ true → (x && d) ≡ true
both_true x d e f = rw (e, f) refl

first_false : (x d : Bool) → x ≡ false → (x && d) ≡ false
first_false x d e = rw e refl

last_false : (x d : Bool) → d ≡ false → (x && d) ≡ false
last_false true d e = e
last_false false d e = refl

joined_place : (t u : Token) → are_joined t u ≡ true → u.start ≡ t.end
joined_place t u e = byte_same u.start t.end (and_true (is_kind kinds.Name t.kind && is_kind kinds.Quoted u.kind) (u.start == t.end) e).1

pub two_words : (line : List ℕ) (root : Bool) (tokens behind : List Token) (d : Token) (r s : Bool) → 1 < length tokens → behind ≡ drop 2 tokens → All (Lies (length line)) tokens → r ≡ are_joined (get_or tokens 0 d) (get_or tokens 1 d) → r ≡ true → ((at : ℕ) → s ≡ takes root (bytes_at line (get_or tokens 0 d)) (pieces_at line at behind)) → s ≡ true → (at : ℕ) →
    joins root (pieces_at line at tokens) ≡ word_at line (both (get_or tokens 0 d) (get_or tokens 1 d)) ∷ joins false (pieces_at line (get_or tokens 1 d).end (drop 2 tokens))
two_words line root [] behind d r s h b lie j e t f at = absurd (omega arith)
two_words line root (x ∷ []) behind d r s h b lie j e t f at = absurd (omega arith)
two_words line root (x ∷ (y ∷ rest)) behind d r s h b lie j e t f at =
    let jt : are_joined x y ≡ true = sym j ∙ e in
    let tt : takes root (bytes_at line x) (pieces_at line y.end rest) ≡ true = ap (λ (ts : List Token). takes root (bytes_at line x) (pieces_at line y.end ts)) (sym b) ∙ sym (t y.end) ∙ f in
    let place = joined_place x y jt in
    let lx = lie 0 x (omega arith) in
    let ly = lie 1 x (omega arith) in
    let all = both_true (are_joined x y) (takes root (bytes_at line x) (pieces_at line y.end rest)) jt tt in
    let sl : slice_range line x.start x.end ++ slice_range line y.start y.end ≡ slice_range line x.start y.end =
    ap (λ (n : ℕ). slice_range line x.start x.end ++ slice_range line n y.end) place ∙ slice_joined line x.start x.end y.end (omega (arith, lx.0)) (omega (arith, ly.0, place))
    in
    rw all (ap (λ (bs : List ℕ). name bs ∷ joins false (pieces_at line y.end rest)) sl)

pub not_joined : (line : List ℕ) (root : Bool) (tokens : List Token) (d : Token) (r : Bool) → 1 < length tokens → r ≡ are_joined (get_or tokens 0 d) (get_or tokens 1 d) → r ≡ false → (at : ℕ) →
    joins root (pieces_at line at tokens) ≡ word_at line (get_or tokens 0 d) ∷ joins false (pieces_at line (get_or tokens 0 d).end (drop 1 tokens))
not_joined line root [] d r h j e at = absurd (omega arith)
not_joined line root (x ∷ []) d r h j e at = absurd (omega arith)
not_joined line root (x ∷ (y ∷ rest)) d r h j e at =
    let g = first_false (are_joined x y) (takes root (bytes_at line x) (pieces_at line y.end rest)) (sym j ∙ e) in
    rw g refl

pub not_taken : (line : List ℕ) (root : Bool) (tokens behind : List Token) (d : Token) (s : Bool) → 1 < length tokens → behind ≡ drop 2 tokens → ((at : ℕ) → s ≡ takes root (bytes_at line (get_or tokens 0 d)) (pieces_at line at behind)) → s ≡ false → (at : ℕ) →
    joins root (pieces_at line at tokens) ≡ word_at line (get_or tokens 0 d) ∷ joins false (pieces_at line (get_or tokens 0 d).end (drop 1 tokens))
not_taken line root [] behind d s h b t f at = absurd (omega arith)
not_taken line root (x ∷ []) behind d s h b t f at = absurd (omega arith)
not_taken line root (x ∷ (y ∷ rest)) behind d s h b t f at =
    let tf : takes root (bytes_at line x) (pieces_at line y.end rest) ≡ false = ap (λ (ts : List Token). takes root (bytes_at line x) (pieces_at line y.end ts)) (sym b) ∙ sym (t y.end) ∙ f in
    let g = last_false (are_joined x y) (takes root (bytes_at line x) (pieces_at line y.end rest)) tf in
    rw g refl

pub last_word : (line : List ℕ) (root : Bool) (tokens : List Token) (d : Token) → 0 < length tokens → length tokens ≤ 1 → (at : ℕ) →
    joins root (pieces_at line at tokens) ≡ word_at line (get_or tokens 0 d) ∷ joins false (pieces_at line (get_or tokens 0 d).end (drop 1 tokens))
last_word line root [] d h k at = absurd (omega arith)
last_word line root (x ∷ []) d h k at = refl
last_word line root (x ∷ (y ∷ rest)) d h k at = absurd (omega arith)

-- the words so far, and those that are left
pub record Joining (line : List ℕ) (tokens words : List Token) (root : Bool) (at : ℕ) : Type 0 where
  pub place : ℕ
  pub same : words_at line words ++ joins root (pieces_at line place (drop at tokens)) ≡ joins true (pieces_at line 0 tokens)

pub joining_starts : (line : List ℕ) (tokens words : List Token) → words ≡ [] → Joining line tokens words true 0
joining_starts line tokens words e = record { place = 0; same = ap (λ (ws : List Token). words_at line ws ++ joins true (pieces_at line 0 tokens)) e }

pub joining_goes : (line : List ℕ) (tokens words more part : List Token) (root : Bool) (at size : ℕ) (word : Token) → part ≡ drop at tokens → more ≡ words ++ word ∷ [] → ((place : ℕ) → joins root (pieces_at line place part) ≡ word_at line word ∷ joins false (pieces_at line word.end (drop size part))) → Joining line tokens words root at → Joining line tokens more false (at + size)
joining_goes line tokens words more part root at size word p e w j = record {
  place = word.end;
  same =
      ap (λ (ws : List Token). words_at line ws ++ joins false (pieces_at line word.end (drop (at + size) tokens))) e
      ∙ ap (λ (ws : List Word). ws ++ joins false (pieces_at line word.end (drop (at + size) tokens))) (map-append (word_at line) words (word ∷ []))
      ∙ append_assoc (words_at line words) (word_at line word ∷ []) (joins false (pieces_at line word.end (drop (at + size) tokens)))
      ∙ ap (λ (ts : List Token). words_at line words ++ (word_at line word ∷ joins false (pieces_at line word.end ts))) (sym (drop-drop size at tokens))
      ∙ ap (λ (ts : List Token). words_at line words ++ (word_at line word ∷ joins false (pieces_at line word.end (drop size ts)))) (sym p)
      ∙ ap (λ (ws : List Word). words_at line words ++ ws) (sym (w j.place))
      ∙ ap (λ (ts : List Token). words_at line words ++ joins root (pieces_at line j.place ts)) p
      ∙ j.same;
}

pub joining_ends : (line : List ℕ) (tokens words : List Token) (root : Bool) (at : ℕ) → length tokens ≤ at → Joining line tokens words root at → words_at line words ≡ joins true (pieces_at line 0 tokens)
joining_ends line tokens words root at h j =
    sym (append-nil (words_at line words))
    ∙ ap (λ (ts : List Token). words_at line words ++ joins root (pieces_at line j.place ts)) (sym (drop_all at tokens h))
    ∙ j.same

-- the first arrow
abbrev pub no_arrow : Token → Bool
no_arrow t = not (is_kind kinds.Arrow t.kind)

pub arrow_on : (tokens : List Token) (i : ℕ) (d : Token) → i < length tokens → no_arrow (get_or tokens i d) ≡ true → prefix_len no_arrow (drop i tokens) ≡ 1 + prefix_len no_arrow (drop (i + 1) tokens)
arrow_on tokens i d h e = rw (drop-cons tokens i d, e, add-one) refl

pub arrow_here : (tokens : List Token) (i : ℕ) (d : Token) → i < length tokens → no_arrow (get_or tokens i d) ≡ false → prefix_len no_arrow (drop i tokens) ≡ 0
arrow_here tokens i d h e = rw (drop-cons tokens i d, e) refl
