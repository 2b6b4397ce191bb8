-- Lists of items in a table that tests them item by item.
use Rattle.std.proofs.Common.{◌≡◌, ℕ, ◌+◌, ◌<◌, List, [], ◌∷◌, ◌++◌, map, get_or, Bool, true, false, not, cond, refl, zero, suc, arith, ap, sym, ◌∙◌, subst, true≢false, inl, inr}
use Rattle.std.specs.Prelude.{nat_eq, ◌&&◌, if◌then◌else◌}
use Rattle.std.specs.List.{list_any, position_or_len}
use Rattle.std.specs.Cmp.Lexicographic.{pointwise}
use Rattle.std.proofs.lemmas.List.{map-append}
use Rattle.tib_lex.specs.Lists.{Has}
use Rattle.tib_grammar.specs.Checked.{IsFirstPlace}
use Rattle.tib_grammar.specs.declared.Item.{Item}
use Rattle.tib_grammar.specs.declared.Item.TheVariants.{Label, Hole}
use Rattle.tib_lex.proofs.Booleans.{and-true, or-either, or-neither}
use Rattle.tib_lex.proofs.Numbers.{nat_eq-true, nat_eq-itself}

-- a test of items by their fields
pub record IsItemTest (E : Item ℕ → Item ℕ → Bool) : Type 0 where
  pub labels : (f r g s : ℕ) → E (Label f r) (Label g s) ≡ (nat_eq f g && nat_eq r s)
  pub label_hole : (f r q : ℕ) → E (Label f r) (Hole q) ≡ false
  pub hole_label : (p g s : ℕ) → E (Hole p) (Label g s) ≡ false
  pub holes : (p q : ℕ) → E (Hole p) (Hole q) ≡ nat_eq p q

module _ (E : Item ℕ → Item ℕ → Bool) (test : IsItemTest E) where
  -- two items that pass the test are the same
  pub item_same : (x y : Item ℕ) → E x y ≡ true → x ≡ y
  item_same (Label f r) (Label g s) e =
      let parts = and-true (nat_eq f g) (nat_eq r s) (sym (test.labels f r g s) ∙ e) in
      let labels : f ≡ g = nat_eq-true f g parts.0 in
      let ranks : r ≡ s = nat_eq-true r s parts.1 in
      cc
  item_same (Label f r) (Hole q) e = absurd (true≢false (sym e ∙ test.label_hole f r q))
  item_same (Hole p) (Label g s) e = absurd (true≢false (sym e ∙ test.hole_label p g s))
  item_same (Hole p) (Hole q) e = ap Hole (nat_eq-true p q (sym (test.holes p q) ∙ e))

  -- an item passes the test with itself
  pub item_itself : (x : Item ℕ) → E x x ≡ true
  item_itself (Label f r) = test.labels f r f r ∙ rw (nat_eq-itself f, nat_eq-itself r) refl
  item_itself (Hole p) = test.holes p p ∙ nat_eq-itself p

  -- two lists whose items pass the test are the same
  pub items_same : (xs ys : List (Item ℕ)) → pointwise E xs ys ≡ true → xs ≡ ys
  items_same [] [] e = refl
  items_same [] (y ∷ ys) e = absurd (cc)
  items_same (x ∷ xs) [] e = absurd (cc)
  items_same (x ∷ xs) (y ∷ ys) e =
      let parts = and-true (E x y) (pointwise E xs ys) e in
      let head : x ≡ y = item_same x y parts.0 in
      let tail : xs ≡ ys = items_same xs ys parts.1 in
      cc

  -- a list passes the test with itself
  pub items_themselves : (xs : List (Item ℕ)) → pointwise E xs xs ≡ true
  items_themselves [] = refl
  items_themselves (x ∷ xs) = rw (item_itself x, items_themselves xs) refl

  module _ {K : Type 0} (v : K → List (Item ℕ)) (x : K) where
    apart : (k : K) → pointwise E (v x) (v k) ≡ false → v k ≡ v x → ⊥
    apart k f e = true≢false (sym (items_themselves (v x)) ∙ ap (pointwise E (v x)) (sym e) ∙ f)

    absent : (keys : List K) → list_any (λ k. pointwise E (v x) (v k)) keys ≡ false → Has (map v keys) (v x) → ⊥
    absent [] f h = h
    absent (k ∷ keys) f h =
        let parts = or-neither (pointwise E (v x) (v k)) (list_any (λ k. pointwise E (v x) (v k)) keys) f in
        elim h [ inl e ↦ apart k parts.0 e | inr m ↦ absent keys parts.1 m ]

    first_place : (keys : List K) → list_any (λ k. pointwise E (v x) (v k)) keys ≡ true → IsFirstPlace (map v keys) (v x) (position_or_len (λ k. pointwise E (v x) (v k)) keys)
    first_place [] e = absurd (cc)
    first_place (k ∷ keys) e = elim (or-either (pointwise E (v x) (v k)) (list_any (λ k. pointwise E (v x) (v k)) keys) e) [
      | inl t ↦ here k keys (pointwise E (v x) (v k)) t (sym (items_same (v x) (v k) t))
      | inr m ↦ there k keys (pointwise E (v x) (v k)) m.0 (apart k m.0) (position_or_len (λ k. pointwise E (v x) (v k)) keys) (first_place keys m.1)
    ]
      where
        here : (k : K) (keys : List K) (b : Bool) → b ≡ true → v k ≡ v x → IsFirstPlace (v k ∷ map v keys) (v x) (cond (not b) (1 + position_or_len (λ k. pointwise E (v x) (v k)) keys) 0)
        here k keys true t e = record { below = omega arith; at = e; least = λ j b. absurd (omega arith) }
        here k keys false t e = absurd (cc)

        later : (k : K) (keys : List K) (i : ℕ) → (v k ≡ v x → ⊥) → IsFirstPlace (map v keys) (v x) i → (j : ℕ) → j < suc i → get_or (v k ∷ map v keys) j [] ≡ v x → ⊥
        later k keys i n p zero b e = n e
        later k keys i n p (suc j) b e = p.least j (omega arith) e

        there : (k : K) (keys : List K) (b : Bool) → b ≡ false → (v k ≡ v x → ⊥) → (i : ℕ) → IsFirstPlace (map v keys) (v x) i → IsFirstPlace (v k ∷ map v keys) (v x) (cond (not b) (1 + i) 0)
        there k keys true f n i p = absurd (cc)
        there k keys false f n i p =
            let e : suc i ≡ 1 + i = omega arith in
            subst (IsFirstPlace (v k ∷ map v keys) (v x)) e (record { below = omega (arith, p.below); at = p.at; least = later k keys i n p })

    -- where the test finds a key, no key is added
    pub kept : (b : Bool) (keys : List K) → b ≡ true → (if b then keys else keys ++ x ∷ []) ≡ keys
    kept true keys e = refl
    kept false keys e = absurd (cc)

    -- where it finds none, the key is added after the others
    pub grown : (b : Bool) (keys : List K) → b ≡ false → (if b then keys else keys ++ x ∷ []) ≡ keys ++ x ∷ []
    grown true keys e = absurd (cc)
    grown false keys e = refl

    -- a list that was not there is added after the others
    pub noted_new :
        (keys now : List K) → list_any (λ k. pointwise E (v x) (v k)) keys ≡ false → now ≡ (if list_any (λ k. pointwise E (v x) (v k)) keys then keys else keys ++ x ∷ []) →
        (Has (map v keys) (v x) → ⊥) × (map v now ≡ map v keys ++ v x ∷ [])
    noted_new keys now f e = (absent keys f, ap (map v) (e ∙ grown (list_any (λ k. pointwise E (v x) (v k)) keys) keys f) ∙ map-append v keys (x ∷ []))

    -- of one that was there the first place is found
    pub noted_before :
        (keys now : List K) (place : ℕ) → list_any (λ k. pointwise E (v x) (v k)) keys ≡ true → place ≡ position_or_len (λ k. pointwise E (v x) (v k)) keys →
        now ≡ (if list_any (λ k. pointwise E (v x) (v k)) keys then keys else keys ++ x ∷ []) → IsFirstPlace (map v keys) (v x) place × (map v now ≡ map v keys)
    noted_before keys now place t p e = (
      subst (IsFirstPlace (map v keys) (v x)) (sym p) (first_place keys t),
      ap (map v) (e ∙ kept (list_any (λ k. pointwise E (v x) (v k)) keys) keys t),
    )

pub was_new : (r b : Bool) → r ≡ not b → r ≡ true → b ≡ false
was_new r true e t = absurd (cc)
was_new r false e t = refl

pub was_held : (r b : Bool) → r ≡ not b → r ≡ false → b ≡ true
was_held r true e f = refl
was_held r false e f = absurd (cc)
