-- The numbers of one table's texts in another table.
use Rattle.std.proofs.Common.{◌≡◌, ℕ, ◌+◌, ◌<◌, ◌⊎◌, Bool, true, false, List, [], ◌∷◌, length, refl, ap, sym, ◌∙◌, arith, zero, suc, inl, inr, Option}
use Rattle.std.specs.Prelude.{slice_get, Some, None, cond}
use Rattle.std.specs.Bool.{Decides}
use Rattle.std.specs.Str.{bytes_eq}
use Rattle.std.proofs.lemmas.Option.{slice_get_within}
use Rattle.std.proofs.lemmas.Slice.Eq.{bytes_eq-Decides}
use Rattle.tib_lex.specs.Lists.{Distinct}
use Rattle.tib_grammar_file.specs.ByText.{HaveOneText}
use Rattle.tib_grammar_file.proofs.OneGrammar.{number_same}
use Rattle.tib_lex.proofs.Lists.{some_same}

-- each label gets the number of its text in the other table, a label whose text is not there gets
-- none of that table, and no two labels get one number
pub record Renumbers (labels others : List (List ℕ)) (f : ℕ → ℕ) : Type 0 where
  pub apart : (i j : ℕ) → f i ≡ f j → i ≡ j
  pub gives : (i k : ℕ) → HaveOneText labels others i k → f i ≡ k
  pub back : (i : ℕ) → f i < length others → HaveOneText labels others i (f i)

-- the place of a text in a table, or the place i past its end if it is not there
abbrev place_or : List (List ℕ) → List ℕ → ℕ → ℕ
place_or [] t i = i
place_or (x ∷ xs) t i = cond (bytes_eq x t) 0 (suc (place_or xs t i))

abbrev number_of : List (List ℕ) → Option (List ℕ) → ℕ → ℕ
number_of others None i = length others + i
number_of others (Some t) i = place_or others t i

-- n is the place of the text, or is i past the end of the table
abbrev IsPlaceOr : List (List ℕ) → List ℕ → ℕ → ℕ → Type 0
IsPlaceOr xs t i n = (slice_get xs n ≡ Some t) ⊎ (n ≡ length xs + i)

is_place : (xs : List (List ℕ)) (t : List ℕ) (i : ℕ) → IsPlaceOr xs t i (place_or xs t i)
is_place [] t i = inr (omega arith)
is_place (x ∷ xs) t i = by (bytes_eq x t) (bytes_eq-Decides x t) (is_place xs t i)
  where
    by : (b : Bool) → Decides b (x ≡ t) → IsPlaceOr xs t i (place_or xs t i) → IsPlaceOr (x ∷ xs) t i (cond b 0 (suc (place_or xs t i)))
    by true d more = inl (ap (λ (y : List ℕ). Some y) (d.0 refl))
    by false d more = elim more [ inl e ↦ inl e | inr e ↦ inr (omega (arith, e)) ]

-- a text that is there has its place
found : (xs : List (List ℕ)) (t : List ℕ) (i k : ℕ) → slice_get xs k ≡ Some t → slice_get xs (place_or xs t i) ≡ Some t
found [] t i k e = absurd (cc)
found (x ∷ xs) t i k e = by (bytes_eq x t) (bytes_eq-Decides x t) k e (λ j f. found xs t i j f)
  where
    by :
        (b : Bool) → Decides b (x ≡ t) → (k : ℕ) → slice_get (x ∷ xs) k ≡ Some t → ((j : ℕ) → slice_get xs j ≡ Some t → slice_get xs (place_or xs t i) ≡ Some t) →
        slice_get (x ∷ xs) (cond b 0 (suc (place_or xs t i))) ≡ Some t
    by true d k e more = ap (λ (y : List ℕ). Some y) (d.0 refl)
    by false d zero e more = (let bad : false ≡ true = d.1 (some_same x t e) in absurd (cc))
    by false d (suc j) e more = more j e

-- the text of i is at n in the other table, or n is i past its end
abbrev IsMoved : List (List ℕ) → List (List ℕ) → ℕ → ℕ → Type 0
IsMoved labels others i n = HaveOneText labels others i n ⊎ (n ≡ length others + i)

is_moved : (labels others : List (List ℕ)) (i : ℕ) (o : Option (List ℕ)) → slice_get labels i ≡ o → IsMoved labels others i (number_of others o i)
is_moved labels others i None e = inr refl
is_moved labels others i (Some t) e = elim (is_place others t i) [
  | inl s ↦ inl (record { text = t; first = e; second = s })
  | inr s ↦ inr s
]

moved_back : (labels others : List (List ℕ)) (i n : ℕ) → IsMoved labels others i n → n < length others → HaveOneText labels others i n
moved_back labels others i n (inl h) low = h
moved_back labels others i n (inr e) low = absurd (omega (arith, e, low))

moved_apart : (labels others : List (List ℕ)) → Distinct labels → (i j m n : ℕ) → IsMoved labels others i m → IsMoved labels others j n → m ≡ n → i ≡ j
moved_apart labels others apart i j m n (inl h) (inl k) e =
    let same : h.text ≡ k.text = some_same h.text k.text (sym h.second ∙ ap (slice_get others) e ∙ k.second) in
    number_same labels i j k.text apart (h.first ∙ ap (λ (t : List ℕ). Some t) same) k.first
moved_apart labels others apart i j m n (inl h) (inr k) e = absurd (omega (arith, slice_get_within others m h.text h.second, k, e))
moved_apart labels others apart i j m n (inr h) (inl k) e = absurd (omega (arith, slice_get_within others n k.text k.second, h, e))
moved_apart labels others apart i j m n (inr h) (inr k) e = omega (arith, h, k, e)

-- there is such a renumbering
pub renumbering : (labels others : List (List ℕ)) → Distinct labels → Distinct others → (f : ℕ → ℕ) × Renumbers labels others f
renumbering labels others apart different =
    let f : ℕ → ℕ = λ i. number_of others (slice_get labels i) i in (
      f,
      record {
        apart = λ i j e. moved_apart labels others apart i j (f i) (f j) (is_moved labels others i (slice_get labels i) refl) (is_moved labels others j (slice_get labels j) refl) e;
        gives = λ i k h.
            ap (λ (o : Option (List ℕ)). number_of others o i) h.first
            ∙ number_same others (place_or others h.text i) k h.text different (found others h.text i k h.second) h.second;
        back = λ i low. moved_back labels others i (f i) (is_moved labels others i (slice_get labels i) refl) low;
      },
    )
