-- Rows over the places of a part of a string, and the bounds of tokens.
use Rattle.std.specs.Prelude.{◌≡◌, ℕ, ◌+◌, ◌-◌, ◌<◌, ◌≤◌, List, [], ◌∷◌, length, drop, Bool, true, false, nat_eq, nat_lt, slice_set, if◌then◌else◌, refl}
use Rattle.std.proofs.Common.{zero, suc, arith, ap, sym, ◌∙◌, subst, inl, inr, get_or}
use Rattle.std.proofs.lemmas.Bool.{cases_lt}
use Rattle.std.proofs.lemmas.List.{get_or-set_same, get_or-set_other}
use Rattle.tib_lex.specs.Lists.{Has}
use Rattle.tib_lex.proofs.Numbers.{nat_eq_cases}
use Rattle.tib_lex.proofs.Booleans.{bool_cases}
use Rattle.tib_strings.specs.declared.Word.{Word as Token}
use Rattle.tib_strings.specs.declared.Word.TheVariants.{Word, Hole}
use Rattle.tib_strings.specs.Cuts.{IsCut}
use Rattle.tib_strings.specs.CutLists.{stands, any_from, cuts_of, reaches}
use Rattle.tib_strings.specs.Bounds.{IsBound, IsRow, IsLast, PassesWord, PassesPair}
use Rattle.tib_strings.proofs.Cutting.{cut_up}
use Rattle.tib_strings.proofs.CutLists.{listed_cut, within_end}
use Rattle.tib_strings.proofs.Reaching.{true_false, reaches_cut, cut_reaches, is_any}
use Rattle.tib_strings.proofs.Stacking.{from_token}

pub past : {A : Type 0} (xs : List A) (n : ℕ) (d : A) → length xs ≤ n → get_or xs n d ≡ d
past [] n d h = refl
past (x ∷ xs) zero d h = absurd (omega arith)
past (x ∷ xs) (suc n) d h = past xs n d (omega arith)

none_has : (xs : List (List ℕ)) → ((ks : List ℕ) → Has xs ks → ⊥) → xs ≡ []
none_has [] h = refl
none_has (x ∷ xs) h = absurd (h x (inl refl))

any_none : (f : ℕ → Bool) (k m : ℕ) → ((n : ℕ) → k ≤ n → f n ≡ false) → any_from f k m ≡ false
any_none f k zero h = refl
any_none f k (suc m) h =
    ap (λ b. if b then true else any_from f (suc k) m) (h k (omega arith)) ∙ any_none f (suc k) m (λ n b. h n (omega (arith, b)))

lower : (n m : ℕ) → m ≤ n → (n ≡ m → ⊥) → m < n
lower n m h d = elim (cases_lt m n) [ inl k ↦ k | inr k ↦ absurd (d (omega (arith, h, k))) ]

-- whether this word is at the place that is read
pub stands_by : (gs : List ℕ) (i f g : ℕ) → true ≡ nat_lt i (length gs) → g ≡ get_or gs i 0 → nat_eq g f ≡ stands gs i f
stands_by [] i f g h e = absurd (grind (arith, h))
stands_by (x ∷ gs) zero f g h e = ap (λ y. nat_eq y f) e
stands_by (x ∷ gs) (suc i) f g h e = stands_by gs i f g (grind (arith, h)) e

pub stands_not : (gs : List ℕ) (i f : ℕ) → false ≡ nat_lt i (length gs) → false ≡ stands gs i f
stands_not [] i f h = refl
stands_not (x ∷ gs) zero f h = absurd (grind (arith, h))
stands_not (x ∷ gs) (suc i) f h = stands_not gs i f (grind (arith, h))

module _ (string : List ℕ) where
  -- nothing reaches back
  pub beyond : (ws : List (Token ℕ)) (j k : ℕ) → j < k → reaches string ws j k ≡ false
  beyond ws j k h = elim (bool_cases (reaches string ws j k)) [
    | inl is ↦ let r = reaches_cut string ws k j is in absurd (omega (arith, h, cut_up string ws k j r.0 r.1))
    | inr isnt ↦ isnt
  ]

  -- what does not reach has no cut
  pub no_cuts : (ws : List (Token ℕ)) (j k : ℕ) → reaches string ws j k ≡ false → cuts_of string ws k j ≡ []
  no_cuts ws j k e = none_has (cuts_of string ws k j) (λ ks h. true_false (reaches string ws j k) (cut_reaches string ws k j ks (listed_cut string ws k j ks h)) e)

  record Through (ws : List (Token ℕ)) (i j : ℕ) : Type 0 where
    place : ℕ
    from : i ≤ place
    to : place ≤ j
    reached : reaches string ws j place ≡ true

  -- a cut goes through a place from which the rest reaches the end
  through : (n : ℕ) (ws : List (Token ℕ)) (i j : ℕ) (ks : List ℕ) → IsCut string ws i j ks → Through (drop n ws) i j
  through zero ws i j ks c = record { place = i; from = omega arith; to = cut_up string ws i j ks c; reached = cut_reaches string ws i j ks c }
  through (suc n) [] i j ks c = record { place = i; from = omega arith; to = cut_up string [] i j ks c; reached = cut_reaches string [] i j ks c }
  through (suc n) (w ∷ ws) i j [] c = absurd c
  through (suc n) (Word f ∷ ws) i j (k ∷ ks) c =
      let t = through n ws k j ks c.1 in record { place = t.place; from = omega (arith, c.0.0, t.from); to = t.to; reached = t.reached }
  through (suc n) (Hole x ∷ ws) i j (k ∷ ks) c =
      let t = through n ws k j ks c.1 in record { place = t.place; from = omega (arith, c.0, t.from); to = t.to; reached = t.reached }

  module _ (i j : ℕ) (up : i ≤ j) where
    -- the row of no tokens
    pub row_start : (row : List Bool) → length row ≡ suc j - i → ((p : ℕ) → p < length row → get_or row p false ≡ nat_eq (i + p) j) → IsRow string [] i j row
    row_start row long at = record { long = long; at = at }

    at_row : (ws : List (Token ℕ)) (row : List Bool) → IsRow string ws i j row → (k : ℕ) → i ≤ k → k ≤ j → get_or row (k - i) false ≡ reaches string ws j k
    at_row ws row is k low high =
        let e : i + (k - i) ≡ k = omega (arith, low) in
        is.at (k - i) (omega (arith, low, high, is.long)) ∙ ap (reaches string ws j) e

    -- where no place of a row is marked the whole list has no cut
    pub none_marked : (n : ℕ) (ws : List (Token ℕ)) (row : List Bool) → IsRow string (drop n ws) i j row → ((p : ℕ) → get_or row p false ≡ false) → cuts_of string ws i j ≡ []
    none_marked n ws row is no_mark =
        none_has (cuts_of string ws i j) (λ ks h.
        let t = through n ws i j ks (listed_cut string ws i j ks h) in
        true_false (reaches string (drop n ws) j t.place) t.reached (sym (at_row (drop n ws) row is t.place t.from t.to) ∙ no_mark (t.place - i)))

    -- the last place that is marked is a bound
    module _ (ws : List (Token ℕ)) (row : List Bool) (is : IsRow string ws i j row) (last : ℕ) (l : IsLast row last) where
      pub last_inside : i + last ≤ j
      last_inside = omega (arith, up, l.below, is.long)

      unmarked : (k : ℕ) → i + last < k → reaches string ws j k ≡ false
      unmarked k h = elim (cases_lt j k) [
        | inl high ↦ beyond ws j k high
        | inr low ↦ sym (at_row ws row is k (omega (arith, h)) (omega (arith, low))) ∙ l.behind (k - i) (omega (arith, h))
      ]

      pub bound_here : (k : ℕ) → i + last < k → cuts_of string ws k j ≡ []
      bound_here k h = no_cuts ws j k (unmarked k h)

      -- the row after a pair
      pub row_pair : (x : _) (new : List Bool) → PassesPair last row new → IsRow string (Hole x ∷ ws) i j new
      row_pair x new p = record {
        long = p.long ∙ is.long;
        at = λ q b. elim (cases_lt last q) [
          | inl high ↦ p.high q (omega (arith, high)) ∙ l.behind q high
              ∙ sym (any_none (reaches string ws j) (i + q) (suc j - (i + q)) (λ n h. unmarked n (omega (arith, high, h))))
          | inr low ↦ marked q (omega (arith, low)) ∙ sym (is_any (reaches string ws j) (i + q) (suc j - (i + q)) (i + last) (omega (arith, low)) (within_end (omega (arith, low)) last_inside) (sym (is.at last l.below) ∙ l.marked))
        ];
      }
        where
          marked : (q : ℕ) → q ≤ last → get_or new q false ≡ true
          marked q h = elim (cases_lt q last) [
            | inl low ↦ p.low q low
            | inr high ↦ let e : last ≡ q = omega (arith, h, high) in p.high q (omega (arith, high)) ∙ ap (λ n. get_or row n false) (sym e) ∙ l.marked
          ]

    -- the row after a word
    pub row_word : (ws : List (Token ℕ)) (row : List Bool) → IsRow string ws i j row → (f : ℕ) (new : List Bool) → PassesWord string i f row new → IsRow string (Word f ∷ ws) i j new
    row_word ws row is f new p = record {
      long = p.long ∙ is.long;
      at = λ q b. p.at q (omega (arith, b, p.long)) ∙ ap (λ m. if stands string (i + q) f then m else false) (next q (omega (arith, b, p.long)));
    }
      where
        next : (q : ℕ) → q < length row → get_or row (q + 1) false ≡ reaches string ws j (suc (i + q))
        next q b =
            let e : i + (q + 1) ≡ suc (i + q) = omega arith in
            elim (cases_lt (q + 1) (length row)) [
              | inl low ↦ is.at (q + 1) low ∙ ap (reaches string ws j) e
              | inr high ↦ past row (q + 1) false (omega (arith, high)) ∙ sym (beyond ws j (suc (i + q)) (omega (arith, high, is.long, up)))
            ]

    -- one more token has its bound
    pub bounds_more :
        (ws : List (Token ℕ)) (p m : ℕ) (bs : List ℕ) (row : List Bool) (last : ℕ) → p ≡ suc m → length bs ≡ length ws → m < length ws → IsRow string (drop p ws) i j row → IsLast row last →
        ((n : ℕ) → p ≤ n → n < length ws → IsBound string ws j bs n) → (n : ℕ) → m ≤ n → n < length ws → IsBound string ws j (slice_set bs m (i + last)) n
    bounds_more ws p m bs row last e long b is l had n low high = elim (nat_eq_cases n m) [
      | inl k ↦
          let at : get_or (slice_set bs m (i + last)) n 0 ≡ i + last = ap (λ q. get_or (slice_set bs m (i + last)) q 0) k.0 ∙ get_or-set_same bs m (i + last) 0 (omega (arith, long, b)) in
          let here : IsRow string (drop (suc n) ws) i j row = subst (λ q. IsRow string (drop q ws) i j row) (e ∙ ap suc (sym k.0)) is in (
            omega (arith, at, last_inside (drop (suc n) ws) row here last l),
            λ q h. bound_here (drop (suc n) ws) row here last l q (omega (arith, at, h)),
          )
      | inr k ↦
          let at : get_or (slice_set bs m (i + last)) n 0 ≡ get_or bs n 0 = get_or-set_other bs m n (i + last) 0 k.0 in
          let old = had n (omega (arith, e, low, lower n m low k.0)) high in (
            omega (arith, at, old.0),
            λ q h. old.1 q (omega (arith, at, h)),
          )
    ]

    -- where the first place of the row of all tokens is not marked there is no cut
    pub first_unmarked : (ws : List (Token ℕ)) (row : List Bool) → IsRow string ws i j row → get_or row 0 false ≡ false → cuts_of string ws i j ≡ []
    first_unmarked ws row is e =
        let z : i + 0 ≡ i = omega arith in
        no_cuts ws j i (ap (reaches string ws j) (sym z) ∙ sym (is.at 0 (omega (arith, is.long, up))) ∙ e)

-- the row after one more token
module _ (string : List ℕ) (ws : List (Token ℕ)) (i j : ℕ) (up : i ≤ j) (p m : ℕ) (e : p ≡ suc m) (b : m < length ws) (row new : List Bool) (is : IsRow string (drop p ws) i j row) where
  behind_is : (w : Token ℕ) → get_or ws m (Word 0) ≡ w → w ∷ drop p ws ≡ drop m ws
  behind_is w at = ap (λ q. w ∷ drop q ws) e ∙ sym (from_token ws m (Word 0) b ∙ ap (λ v. v ∷ drop (suc m) ws) at)

  pub next_word : (f : ℕ) → get_or ws m (Word 0) ≡ Word f → PassesWord string i f row new → IsRow string (drop m ws) i j new
  next_word f at passes = subst (λ vs. IsRow string vs i j new) (behind_is (Word f) at) (row_word string i j up (drop p ws) row is f new passes)

  pub next_pair : (x : _) → get_or ws m (Word 0) ≡ Hole x → (last : ℕ) → IsLast row last → PassesPair last row new → IsRow string (drop m ws) i j new
  next_pair x at last l passes = subst (λ vs. IsRow string vs i j new) (behind_is (Hole x) at) (row_pair string i j up (drop p ws) row is last l x new passes)
