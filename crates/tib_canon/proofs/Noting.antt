-- Sides in a table that tests them item by item.
use Rattle.std.proofs.Common.{◌≡◌, ℕ, ◌+◌, ◌<◌, List, [], ◌∷◌, ◌++◌, length, map, get_or, Bool, true, false, not, cond, refl, suc, arith, ap, sym, ◌∙◌, subst, true≢false, inl, inr}
use Rattle.std.specs.Prelude.{nat_eq, ◌&&◌, if◌then◌else◌}
use Rattle.std.specs.List.{list_any, position_or_len}
use Rattle.std.specs.Cmp.Lexicographic.{pointwise}
use Rattle.std.proofs.lemmas.List.{map-append}
use Rattle.tib_lex.proofs.Numbers.{nat_eq-true, nat_eq-itself}
use Rattle.tib_lex.proofs.Booleans.{and-true, or-either, or-neither}
use Rattle.tib_lex.specs.Lists.{Has}
use Rattle.tib_grammar.specs.declared.Item.{Item}
use Rattle.tib_grammar.proofs.RightSides.{IsItemTest, items_same, items_themselves}
use Rattle.tib_canon.specs.Merging.{Sides}

module _ (E : Item ℕ → Item ℕ → Bool) (test : IsItemTest E) where
  -- the test of two parts tells sides apart
  pub sides_same : (j k : Sides) → (nat_eq j.0 k.0 && pointwise E j.1 k.1) ≡ true → k ≡ j
  sides_same j k e =
      let parts = and-true (nat_eq j.0 k.0) (pointwise E j.1 k.1) e in
      let left : j.0 ≡ k.0 = nat_eq-true j.0 k.0 parts.0 in
      let right : j.1 ≡ k.1 = items_same E test j.1 k.1 parts.1 in
      sym (ap (λ x. (x, j.1)) left ∙ ap (λ x. (k.0, x)) right)

  pub sides_themselves : (j k : Sides) → k ≡ j → (nat_eq j.0 k.0 && pointwise E j.1 k.1) ≡ true
  sides_themselves j k e = subst (λ (l : Sides). (nat_eq j.0 l.0 && pointwise E j.1 l.1) ≡ true) (sym e) (rw (nat_eq-itself j.0, items_themselves E test j.1) refl)

module _ {K S : Type 0} (blank : S) (v : K → S) (t : K → Bool) (x : K) where
  absent : ((k : K) → v k ≡ v x → t k ≡ true) → (keys : List K) → list_any t keys ≡ false → Has (map v keys) (v x) → ⊥
  absent told [] f h = h
  absent told (k ∷ keys) f h =
      let parts = or-neither (t k) (list_any t keys) f in
      elim h [ inl e ↦ true≢false (sym (told k e) ∙ parts.0) | inr m ↦ absent told keys parts.1 m ]

  found : ((k : K) → t k ≡ true → v k ≡ v x) → (keys : List K) → list_any t keys ≡ true → (position_or_len t keys < length (map v keys)) × (get_or (map v keys) (position_or_len t keys) blank ≡ v x)
  found tells [] e = absurd (cc)
  found tells (k ∷ keys) e = elim (or-either (t k) (list_any t keys) e) [
    | inl h ↦ here k keys (t k) h (tells k h)
    | inr m ↦ there k keys (t k) m.0 (position_or_len t keys) (found tells keys m.1)
  ]
    where
      here : (k : K) (keys : List K) (b : Bool) → b ≡ true → v k ≡ v x → (cond (not b) (1 + position_or_len t keys) 0 < length (v k ∷ map v keys)) × (get_or (v k ∷ map v keys) (cond (not b) (1 + position_or_len t keys) 0) blank ≡ v x)
      here k keys true h e = (omega arith, e)
      here k keys false h e = absurd (cc)

      there : (k : K) (keys : List K) (b : Bool) → b ≡ false → (i : ℕ) → (i < length (map v keys)) × (get_or (map v keys) i blank ≡ v x) → (cond (not b) (1 + i) 0 < length (v k ∷ map v keys)) × (get_or (v k ∷ map v keys) (cond (not b) (1 + i) 0) blank ≡ v x)
      there k keys true h i p = absurd (cc)
      there k keys false h i p =
          let e : suc i ≡ 1 + i = omega arith in
          subst (λ n. (n < length (v k ∷ map v keys)) × (get_or (v k ∷ map v keys) n blank ≡ v x)) e (omega (arith, p.0), p.1)

  kept : (b : Bool) (keys : List K) → b ≡ true → (if b then keys else keys ++ x ∷ []) ≡ keys
  kept true keys e = refl
  kept false keys e = absurd (cc)

  grown : (b : Bool) (keys : List K) → b ≡ false → (if b then keys else keys ++ x ∷ []) ≡ keys ++ x ∷ []
  grown true keys e = absurd (cc)
  grown false keys e = refl

  -- what the test finds equal to no key is noted after the others
  pub noted_new :
      ((k : K) → v k ≡ v x → t k ≡ true) → (keys now : List K) → list_any t keys ≡ false → now ≡ (if list_any t keys then keys else keys ++ x ∷ []) →
      (Has (map v keys) (v x) → ⊥) × (map v now ≡ map v keys ++ v x ∷ [])
  noted_new told keys now f e = (absent told keys f, ap (map v) (e ∙ grown (list_any t keys) keys f) ∙ map-append v keys (x ∷ []))

  -- and what was noted before is at the place that was found
  pub noted_before :
      ((k : K) → t k ≡ true → v k ≡ v x) → (keys now : List K) (place : ℕ) → list_any t keys ≡ true → place ≡ position_or_len t keys →
      now ≡ (if list_any t keys then keys else keys ++ x ∷ []) → (place < length (map v keys)) × (get_or (map v keys) place blank ≡ v x) × (map v now ≡ map v keys)
  noted_before tells keys now place h p e =
      let at = subst (λ n. (n < length (map v keys)) × (get_or (map v keys) n blank ≡ v x)) (sym p) (found tells keys h) in
      (at.0, at.1, ap (map v) (e ∙ kept (list_any t keys) keys h))
