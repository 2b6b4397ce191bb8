-- The keys of the variables of a left-hand side, by the states and the places of the pairs of its
-- right-hand side.
use Rattle.std.specs.Prelude.{◌≡◌, ℕ, ◌<◌, ◌≤◌, List, [], ◌∷◌, length, map, drop, refl, slice_set}
use Rattle.std.proofs.Common.{zero, suc, arith, ap, sym, ◌∙◌, subst, get_or, inl, inr}
use Rattle.std.proofs.lemmas.List.{get_or-set_same, get_or-set_other}
use Rattle.tib_lex.specs.Lists.{Each}
use Rattle.tib_lex.proofs.Numbers.{nat_eq_cases}
use Rattle.tib_transducer.specs.declared.Variable.{Variable}
use Rattle.tib_transducer.specs.declared.Pair.{Pair}
use Rattle.tib_strings.specs.Rules.{pairs_of}
use Rattle.tib_strings.specs.declared.Word.{Word as Token}
use Rattle.tib_strings.specs.declared.Word.TheVariants.{Word, Hole}
use Rattle.tib_apply.specs.Restrictions.{restriction}
use Rattle.tib_strings.specs.Cuts.{spans}
use Rattle.tib_image.specs.Parsing.{span_at, parse_key}
use Rattle.tib_image.specs.ParseListing.{variable_key, place_before}

-- the keys of variables
pub keys_same :
    (labels : List ℕ) (by : List (ℕ × ℕ × ℕ)) (pairs : List (Pair ℕ)) (ss : List (ℕ × ℕ)) → ((v : ℕ) → get_or by v (0, 0, 0) ≡ span_at v pairs ss) →
    (xs : List Variable) → map (variable_key labels by) xs ≡ map (parse_key labels pairs ss) xs
keys_same labels by pairs ss at [] = refl
keys_same labels by pairs ss at (x ∷ xs) =
    ap (λ (s : ℕ × ℕ × ℕ). (s.0, s.1, s.2, restriction labels x.label) ∷ map (variable_key labels by) xs) (at x.number)
    ∙ ap (λ ks. parse_key labels pairs ss x ∷ ks) (keys_same labels by pairs ss at xs)

-- the tokens from a position on, where the first of all is at i
abbrev pub AtFrom : List (Token ℕ) → ℕ → List ℕ → ℕ → List (ℕ × ℕ × ℕ) → Type 0
AtFrom ws i ks n by = (v : ℕ) → get_or by v (0, 0, 0) ≡ span_at v (pairs_of (drop n ws)) (spans (drop n ws) (place_before i ks n) (drop n ks))

drop_next : {A : Type 0} (xs : List A) (n : ℕ) (d : A) → n < length xs → drop n xs ≡ get_or xs n d ∷ drop (suc n) xs
drop_next [] n d h = absurd (omega arith)
drop_next (x ∷ xs) zero d h = refl
drop_next (x ∷ xs) (suc n) d h = drop_next xs n d (omega arith)

drop_past : {A : Type 0} (xs : List A) (n : ℕ) → length xs ≤ n → drop n xs ≡ []
drop_past [] zero h = refl
drop_past [] (suc n) h = refl
drop_past (x ∷ xs) zero h = absurd (omega arith)
drop_past (x ∷ xs) (suc n) h = drop_past xs n (omega arith)

-- what holds of each pair holds of that at a position
pub pair_at : (P : Pair ℕ → Type 0) (ws : List (Token ℕ)) (n : ℕ) (x : Pair ℕ) → n < length ws → get_or ws n (Word 0) ≡ Hole x → Each P (pairs_of ws) → P x
pair_at P [] n x low is h = absurd (omega arith)
pair_at P (Word f ∷ ws) zero x low is h = absurd (cc is)
pair_at P (Hole y ∷ ws) zero x low is h = let same : y ≡ x = cc is in subst P same h.0
pair_at P (Word f ∷ ws) (suc n) x low is h = pair_at P ws n x (omega arith) is h
pair_at P (Hole y ∷ ws) (suc n) x low is h = pair_at P ws n x (omega arith) is h.1

-- after the last token there is none
pub at_end : (ws : List (Token ℕ)) (i : ℕ) (ks : List ℕ) (n : ℕ) (by : List (ℕ × ℕ × ℕ)) → n ≡ length ws → ((v : ℕ) → get_or by v (0, 0, 0) ≡ (0, 0, 0)) → AtFrom ws i ks n by
at_end ws i ks n by is empty v =
    empty v ∙ ap (λ (rest : List (Token ℕ)). span_at v (pairs_of rest) (spans rest (place_before i ks n) (drop n ks))) (sym (drop_past ws n (omega (arith, is))))

module _ (ws : List (Token ℕ)) (i : ℕ) (ks : List ℕ) (n : ℕ) (as_many : length ks ≡ length ws) (below : n < length ws) (by : List (ℕ × ℕ × ℕ)) where
  next_places : drop n ks ≡ get_or ks n 0 ∷ drop (suc n) ks
  next_places = drop_next ks n 0 (omega (arith, as_many, below))

  -- a word in front
  pub at_word : (f : ℕ) → get_or ws n (Word 0) ≡ Word f → AtFrom ws i ks (suc n) by → AtFrom ws i ks n by
  at_word f is had v =
      let here : drop n ws ≡ Word f ∷ drop (suc n) ws = drop_next ws n (Word 0) below ∙ ap (λ w. w ∷ drop (suc n) ws) is in
      had v
      ∙ ap (λ (rest : List (Token ℕ)). span_at v (pairs_of rest) (spans rest (place_before i ks n) (get_or ks n 0 ∷ drop (suc n) ks))) (sym here)
      ∙ ap (λ (cs : List ℕ). span_at v (pairs_of (drop n ws)) (spans (drop n ws) (place_before i ks n) cs)) (sym next_places)

  -- a pair in front
  pub at_pair :
      (x : Pair ℕ) → get_or ws n (Word 0) ≡ Hole x → x.variable < length by → AtFrom ws i ks (suc n) by →
      AtFrom ws i ks n (slice_set by x.variable (x.state, place_before i ks n, get_or ks n 0))
  at_pair x is low had v =
      let here : drop n ws ≡ Hole x ∷ drop (suc n) ws = drop_next ws n (Word 0) below ∙ ap (λ w. w ∷ drop (suc n) ws) is in
      found
      ∙ ap (λ (rest : List (Token ℕ)). span_at v (pairs_of rest) (spans rest (place_before i ks n) (get_or ks n 0 ∷ drop (suc n) ks))) (sym here)
      ∙ ap (λ (cs : List ℕ). span_at v (pairs_of (drop n ws)) (spans (drop n ws) (place_before i ks n) cs)) (sym next_places)
    where
      found :
          get_or (slice_set by x.variable (x.state, place_before i ks n, get_or ks n 0)) v (0, 0, 0)
          ≡ span_at v (x ∷ pairs_of (drop (suc n) ws)) ((place_before i ks n, get_or ks n 0) ∷ spans (drop (suc n) ws) (get_or ks n 0) (drop (suc n) ks))
      found = elim (nat_eq_cases v x.variable) [
        | inl k ↦ rw (k.1, k.0) (get_or-set_same by x.variable (x.state, place_before i ks n, get_or ks n 0) (0, 0, 0) low)
        | inr k ↦ rw k.1 (get_or-set_other by x.variable v (x.state, place_before i ks n, get_or ks n 0) (0, 0, 0) k.0 ∙ had v)
      ]

-- the spans of tokens and of a place under other names
pub spans_at :
    (ws : List (Token ℕ)) (i : ℕ) (ks : List ℕ) (tokens : List (Token ℕ)) (from : ℕ) (by read : List (ℕ × ℕ × ℕ)) → tokens ≡ ws → from ≡ i → read ≡ by →
    ((v : ℕ) → get_or by v (0, 0, 0) ≡ span_at v (pairs_of tokens) (spans tokens from ks)) → (v : ℕ) → get_or read v (0, 0, 0) ≡ span_at v (pairs_of ws) (spans ws i ks)
spans_at ws i ks tokens from by read same here is at v =
    ap (λ (xs : List (ℕ × ℕ × ℕ)). get_or xs v (0, 0, 0)) is ∙ at v ∙ ap (λ (xs : List (Token ℕ)). span_at v (pairs_of xs) (spans xs from ks)) same ∙ ap (λ n. span_at v (pairs_of ws) (spans ws n ks)) here
