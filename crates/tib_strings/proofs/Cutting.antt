-- Parts of a string between places, and the cuts of a list over them.
use Rattle.std.specs.Prelude.{◌≡◌, ℕ, ◌+◌, ◌<◌, ◌≤◌, List, [], ◌∷◌, ◌++◌, length, map, refl}
use Rattle.std.proofs.Common.{zero, suc, arith, ap, sym, ◌∙◌, get_or, length-append}
use Rattle.tib_lex.specs.Lists.{Each}
use Rattle.tib_strings.specs.Rules.{pairs_of}
use Rattle.tib_strings.specs.Run.{put}
use Rattle.tib_strings.specs.Cuts.{IsCut, spans}
use Rattle.tib_strings.specs.declared.Word.{Word as Token}
use Rattle.tib_strings.specs.declared.Word.TheVariants.{Word, Hole}

-- the words of a string between two places
abbrev pub between : List ℕ → ℕ → ℕ → List ℕ
between [] i j = []
between (f ∷ s) (suc i) (suc j) = between s i j
between (f ∷ s) (suc i) zero = []
between (f ∷ s) zero zero = []
between (f ∷ s) zero (suc j) = f ∷ between s zero j

pub between_all : (s : List ℕ) → between s 0 (length s) ≡ s
between_all [] = refl
between_all (f ∷ s) = ap (λ (l : List ℕ). f ∷ l) (between_all s)

pub between_none : (s : List ℕ) (i : ℕ) → between s i i ≡ []
between_none [] i = refl
between_none (f ∷ s) zero = refl
between_none (f ∷ s) (suc i) = between_none s i

pub between_join : (s : List ℕ) (i k j : ℕ) → i ≤ k → k ≤ j → between s i k ++ between s k j ≡ between s i j
between_join [] i k j h l = refl
between_join (f ∷ s) (suc i) zero j h l = absurd (omega arith)
between_join (f ∷ s) (suc i) (suc k) zero h l = absurd (omega arith)
between_join (f ∷ s) (suc i) (suc k) (suc j) h l = between_join s i k j (omega arith) (omega arith)
between_join (f ∷ s) zero zero zero h l = refl
between_join (f ∷ s) zero zero (suc j) h l = refl
between_join (f ∷ s) zero (suc k) zero h l = absurd (omega arith)
between_join (f ∷ s) zero (suc k) (suc j) h l = ap (λ (z : List ℕ). f ∷ z) (between_join s zero k j (omega arith) (omega arith))

pub between_long : (s : List ℕ) (i j : ℕ) → i ≤ j → j ≤ length s → i + length (between s i j) ≡ j
between_long [] i j h l = omega arith
between_long (f ∷ s) zero zero h l = omega arith
between_long (f ∷ s) zero (suc j) h l = omega (arith, between_long s zero j (omega arith) (omega arith))
between_long (f ∷ s) (suc i) zero h l = absurd (omega arith)
between_long (f ∷ s) (suc i) (suc j) h l = omega (arith, between_long s i j (omega arith) (omega arith))

pub between_word : (s : List ℕ) (i : ℕ) → i < length s → between s i (suc i) ≡ get_or s i 0 ∷ []
between_word [] i h = absurd (omega arith)
between_word (f ∷ s) zero h = ap (λ (z : List ℕ). f ∷ z) (between_none s zero)
between_word (f ∷ s) (suc i) h = between_word s i (omega arith)

-- two lists that agree, with fronts of one length
same_parts : (xs ys us vs : List ℕ) → length xs ≡ length ys → xs ++ us ≡ ys ++ vs → (xs ≡ ys) × (us ≡ vs)
same_parts [] [] us vs l e = (refl, e)
same_parts [] (y ∷ ys) us vs l e = absurd (omega arith)
same_parts (x ∷ xs) [] us vs l e = absurd (omega arith)
same_parts (x ∷ xs) (y ∷ ys) us vs l e =
    let first : x ≡ y = cc e in
    let more : xs ++ us ≡ ys ++ vs = cc e in
    let r = same_parts xs ys us vs (omega arith) more in
    (cc (first, r.0), r.1)

-- a part of a string in two: the place where the front ends
pub record Split (s : List ℕ) (i j : ℕ) (front back : List ℕ) : Type 0 where
  pub place : ℕ
  pub at : place ≡ i + length front
  pub from : i ≤ place
  pub to : place ≤ j
  pub first : front ≡ between s i place
  pub rest : back ≡ between s place j

pub split : (s front back : List ℕ) (i j : ℕ) → i ≤ j → j ≤ length s → front ++ back ≡ between s i j → Split s i j front back
split s front back i j h l e =
    let k : ℕ = i + length front in
    let whole : i + length (between s i j) ≡ j = between_long s i j h l in
    let parts : length (front ++ back) ≡ length front + length back = length-append front back in
    let same : length (front ++ back) ≡ length (between s i j) = ap length e in
    let from : i ≤ k = omega arith in
    let to : k ≤ j = omega (arith, whole, parts, same) in
    let one : i + length (between s i k) ≡ k = between_long s i k from (omega (arith, to, l)) in
    let r = same_parts front (between s i k) back (between s k j) (omega (arith, one)) (e ∙ sym (between_join s i k j from to)) in
    record { place = k; at = refl; from = from; to = to; first = r.0; rest = r.1 }

-- places that are in order, in a string
abbrev pub IsRange : List ℕ → ℕ × ℕ → Type 0
IsRange string s = (s.0 ≤ s.1) × (s.1 ≤ length string)

-- the words between two places
abbrev pub text_in : List ℕ → ℕ × ℕ → List ℕ
text_in string s = between string s.0 s.1

word_up : {i j k : ℕ} → k ≡ suc i → k ≤ j → i ≤ j
word_up e h = omega arith

pub after_up : {i j k : ℕ} → i ≤ k → k ≤ j → i ≤ j
after_up e h = omega arith

step_up : {i k : ℕ} → k ≡ suc i → i ≤ k
step_up e = omega arith

pub step_by : {i k : ℕ} → k ≡ i + 1 → k ≡ suc i
step_by e = omega arith

below_to : {i k j n : ℕ} → k ≡ i + 1 → k ≤ j → j ≤ n → i < n
below_to e h l = omega arith

no_more : {i j n : ℕ} → i + n ≡ j → 0 ≡ n → i ≡ j
no_more h e = omega arith

module _ (string : List ℕ) where
  pub cut_up : (ws : List (Token ℕ)) (i j : ℕ) (ks : List ℕ) → IsCut string ws i j ks → i ≤ j
  cut_up [] i j [] c = omega (arith, c)
  cut_up [] i j (k ∷ ks) c = absurd c
  cut_up (w ∷ ws) i j [] c = absurd c
  cut_up (Word f ∷ ws) i j (k ∷ ks) c = word_up c.0.0 (cut_up ws k j ks c.1)
  cut_up (Hole x ∷ ws) i j (k ∷ ks) c = after_up c.0 (cut_up ws k j ks c.1)

  pub spans_long : (ws : List (Token ℕ)) (i j : ℕ) (ks : List ℕ) → IsCut string ws i j ks → length (spans ws i ks) ≡ length (pairs_of ws)
  spans_long [] i j ks c = refl
  spans_long (w ∷ ws) i j [] c = absurd c
  spans_long (Word f ∷ ws) i j (k ∷ ks) c = spans_long ws k j ks c.1
  spans_long (Hole x ∷ ws) i j (k ∷ ks) c = ap suc (spans_long ws k j ks c.1)

  -- over the places of a cut the list outputs what is between its ends
  pub cut_puts : (ws : List (Token ℕ)) (i j : ℕ) (ks : List ℕ) → IsCut string ws i j ks → put ws (map (text_in string) (spans ws i ks)) ≡ between string i j
  cut_puts [] i j [] c = sym (between_none string i) ∙ ap (λ n. between string i n) c
  cut_puts [] i j (k ∷ ks) c = absurd c
  cut_puts (w ∷ ws) i j [] c = absurd c
  cut_puts (Word f ∷ ws) i j (k ∷ ks) c =
      let first : between string i k ≡ f ∷ [] = ap (λ n. between string i n) c.0.0 ∙ between_word string i c.0.1 ∙ ap (λ (g : ℕ). g ∷ []) c.0.2 in
      ap (λ (z : List ℕ). f ∷ z) (cut_puts ws k j ks c.1)
      ∙ ap (λ (z : List ℕ). z ++ between string k j) (sym first)
      ∙ between_join string i k j (step_up c.0.0) (cut_up ws k j ks c.1)
  cut_puts (Hole x ∷ ws) i j (k ∷ ks) c =
      ap (λ (z : List ℕ). between string i k ++ z) (cut_puts ws k j ks c.1) ∙ between_join string i k j c.0 (cut_up ws k j ks c.1)

  -- a cut in which the pairs have some strings
  pub record FoundCut (ws : List (Token ℕ)) (ss : List (List ℕ)) (i j : ℕ) : Type 0 where
    pub cut : List ℕ
    pub is_cut : IsCut string ws i j cut
    pub texts : ss ≡ map (text_in string) (spans ws i cut)
    pub ranges : Each (IsRange string) (spans ws i cut)

  pub find_cut :
      (ws : List (Token ℕ)) (ss : List (List ℕ)) (i j : ℕ) → length ss ≡ length (pairs_of ws) → i ≤ j → j ≤ length string → put ws ss ≡ between string i j → FoundCut ws ss i j
  find_cut [] [] i j l h b e = record { cut = []; is_cut = no_more (between_long string i j h b) (ap length e); texts = refl; ranges = tt }
  find_cut [] (s ∷ ss) i j l h b e = absurd (omega arith)
  find_cut (Word f ∷ ws) ss i j l h b e =
      let p = split string (f ∷ []) (put ws ss) i j h b e in
      let low : i < length string = below_to p.at p.to b in
      let next : p.place ≡ suc i = step_by p.at in
      let one : f ∷ [] ≡ get_or string i 0 ∷ [] = p.first ∙ ap (λ n. between string i n) next ∙ between_word string i low in
      let is : f ≡ get_or string i 0 = cc one in
      let more = find_cut ws ss p.place j l p.to b p.rest in
      record { cut = p.place ∷ more.cut; is_cut = ((next, low, sym is), more.is_cut); texts = more.texts; ranges = more.ranges }
  find_cut (Hole x ∷ ws) [] i j l h b e = absurd (omega arith)
  find_cut (Hole x ∷ ws) (s ∷ ss) i j l h b e =
      let p = split string s (put ws ss) i j h b e in
      let more = find_cut ws ss p.place j (omega arith) p.to b p.rest in
      record {
        cut = p.place ∷ more.cut;
        is_cut = (p.from, more.is_cut);
        texts = ap (λ (z : List ℕ). z ∷ ss) p.first ∙ ap (λ (zs : List (List ℕ)). between string i p.place ∷ zs) more.texts;
        ranges = ((p.from, after_up p.to b), more.ranges);
      }
