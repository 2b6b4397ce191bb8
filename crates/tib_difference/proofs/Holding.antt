-- Values are added to the lists of numbers.
use Rattle.std.specs.Prelude.{◌≡◌, ℕ, ◌<◌, List, [], ◌∷◌, ◌++◌, length, map, refl}
use Rattle.std.specs.Global.{Vec}
use Rattle.std.proofs.Common.{zero, suc, arith, ap, sym, ◌∙◌, set, get_or, inl, inr}
use Rattle.std.proofs.lemmas.List.{get_or-set_same, get_or-set_other, map-set, length-map, get_or-map}
use Rattle.tib_lex.proofs.Numbers.{nat_eq_cases}
use Rattle.tib_difference.specs.Held.{held, HoldSame, HoldsMore}

-- one more list, without values
pub one_more : {A : Type 0} (bs : List (Vec A)) (v : Vec A) → v.items ≡ [] → HoldSame bs (bs ++ v ∷ [])
one_more [] v e zero = e
one_more [] v e (suc q) = refl
one_more (b ∷ bs) v e zero = refl
one_more (b ∷ bs) v e (suc q) = one_more bs v e q

module _ {A : Type 0} (old bs : List (Vec A)) (s : ℕ) (p : A) (v : Vec A) (same : HoldSame old bs) (low : s < length bs) (is : v.items ≡ held bs s ++ p ∷ []) where
  now_there : held (set bs s v) s ≡ v.items
  now_there = rw (map-set (λ (b : Vec A). b.items) bs s v) (get_or-set_same (map (λ (b : Vec A). b.items) bs) s v.items [] (omega (arith, low, length-map bs (λ (b : Vec A). b.items))))

  other_state : (q : ℕ) → (q ≡ s → ⊥) → held (set bs s v) q ≡ held bs q
  other_state q n = rw (map-set (λ (b : Vec A). b.items) bs s v) (get_or-set_other (map (λ (b : Vec A). b.items) bs) s q v.items [] n)

  -- one more value at a number
  pub value_added : HoldsMore s p old (set bs s v)
  value_added q = elim (nat_eq_cases s q) [
    | inl k ↦ rw k.1 (ap (λ (m : ℕ). held (set bs s v) m) (sym k.0) ∙ now_there ∙ is ∙ ap (λ (m : ℕ). held bs m ++ p ∷ []) k.0 ∙ ap (λ (xs : List A). xs ++ p ∷ []) (same q))
    | inr k ↦ rw k.1 (other_state q (λ e. k.0 (sym e)) ∙ same q)
  ]

-- one more value at a number, whose list was b
pub value_set : {A : Type 0} (old bs : List (Vec A)) (s : ℕ) (p : A) (v b : Vec A) → HoldSame old bs → s < length bs → b ≡ get_or bs s b → v.items ≡ b.items ++ p ∷ [] → HoldsMore s p old (set bs s v)
value_set {A} old bs s p v b same low at is =
    value_added old bs s p v same low (is ∙ ap (λ (xs : List A). xs ++ p ∷ []) (ap (λ (x : Vec A). x.items) at ∙ sym (get_or-map (λ (x : Vec A). x.items) bs s b [] low)))
