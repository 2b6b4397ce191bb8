-- The cuts of a list are listed, each once.
use Rattle.std.specs.Prelude.{◌≡◌, ℕ, ◌+◌, ◌-◌, ◌<◌, ◌≤◌, List, [], ◌∷◌, ◌++◌, length, map, true, refl}
use Rattle.std.proofs.Common.{zero, suc, arith, ap, sym, ◌∙◌, subst, inl, inr, get_or}
use Rattle.std.proofs.lemmas.Bool.{cases_lt}
use Rattle.tib_lex.specs.Lists.{Has, Distinct}
use Rattle.tib_lex.proofs.Members.{has_left, has_right, has_either}
use Rattle.tib_lex.proofs.Numbers.{nat_eq_cases}
use Rattle.tib_lex.proofs.Booleans.{bool_cases}
use Rattle.tib_strings.specs.declared.Word.{Word as Token}
use Rattle.tib_strings.specs.declared.Word.TheVariants.{Word, Hole}
use Rattle.tib_strings.specs.Cuts.{IsCut}
use Rattle.tib_strings.specs.CutLists.{stands, over_places, cuts_of}
use Rattle.tib_strings.proofs.Cutting.{cut_up}

-- lists without members in common
distinct_append : {A : Type 0} (xs ys : List A) → Distinct xs → Distinct ys → ((x : A) → Has xs x → Has ys x → ⊥) → Distinct (xs ++ ys)
distinct_append [] ys d e n = e
distinct_append (x ∷ xs) ys d e n = (
  λ h. elim (has_either xs ys x h) [ inl k ↦ d.0 k | inr k ↦ n x (inl refl) k ],
  distinct_append xs ys d.1 e (λ y h. n y (inr h)),
)

pub stands_is : (gs : List ℕ) (i f : ℕ) → stands gs i f ≡ true → (i < length gs) × (get_or gs i 0 ≡ f)
stands_is [] i f e = absurd (cc)
stands_is (g ∷ gs) zero f e = elim (nat_eq_cases g f) [
  | inl k ↦ (omega arith, k.0)
  | inr k ↦ absurd (cc (e, k.1))
]
stands_is (g ∷ gs) (suc i) f e = let r = stands_is gs i f e in (omega (arith, r.0), r.1)

pub is_standing : (gs : List ℕ) (i f : ℕ) → i < length gs → get_or gs i 0 ≡ f → stands gs i f ≡ true
is_standing [] i f h e = absurd (omega arith)
is_standing (g ∷ gs) zero f h e = elim (nat_eq_cases g f) [ inl k ↦ k.1 | inr k ↦ absurd (k.0 e) ]
is_standing (g ∷ gs) (suc i) f h e = is_standing gs i f (omega arith) e

-- lists with one number before each
has_cons : (n : ℕ) (xs : List (List ℕ)) (x : List ℕ) → Has xs x → Has (map (λ (l : List ℕ). n ∷ l) xs) (n ∷ x)
has_cons n [] x h = absurd h
has_cons n (y ∷ xs) x h = elim h [ inl e ↦ inl (ap (λ (l : List ℕ). n ∷ l) e) | inr k ↦ inr (has_cons n xs x k) ]

cons_has : (n : ℕ) (xs : List (List ℕ)) (z : List ℕ) → Has (map (λ (l : List ℕ). n ∷ l) xs) z → (x : List ℕ) × Has xs x × (n ∷ x ≡ z)
cons_has n [] z h = absurd h
cons_has n (y ∷ xs) z h = elim h [
  | inl e ↦ (y, inl refl, e)
  | inr k ↦ let r = cons_has n xs z k in (r.0, inr r.1, r.2)
]

same_tail : (n : ℕ) (x y : List ℕ) → n ∷ x ≡ n ∷ y → x ≡ y
same_tail n x y e = cc

same_first : (n m : ℕ) (x y : List ℕ) → n ∷ x ≡ m ∷ y → n ≡ m
same_first n m x y e = cc

cons_once : (n : ℕ) (xs : List (List ℕ)) → Distinct xs → Distinct (map (λ (l : List ℕ). n ∷ l) xs)
cons_once n [] d = tt
cons_once n (x ∷ xs) d = (
  λ h. let r = cons_has n xs (n ∷ x) h in d.0 (subst (Has xs) (same_tail n r.0 x r.2) r.1),
  cons_once n xs d.1,
)

-- over some places
in_places : (f : ℕ → List (List ℕ)) (i m k : ℕ) (ks : List ℕ) → i ≤ k → k < i + m → Has (f k) ks → Has (over_places f i m) (k ∷ ks)
in_places f i zero k ks h l s = absurd (omega arith)
in_places f i (suc m) k ks h l s = elim (cases_lt i k) [
  | inl low ↦ has_right (map (λ (l : List ℕ). i ∷ l) (f i)) (over_places f (suc i) m) (k ∷ ks) (in_places f (suc i) m k ks (omega arith) (omega arith) s)
  | inr high ↦
      let at : k ≡ i = omega arith in
      has_left (map (λ (l : List ℕ). i ∷ l) (f i)) (over_places f (suc i) m) (k ∷ ks)
      (subst (λ (n : ℕ). Has (map (λ (l : List ℕ). i ∷ l) (f i)) (n ∷ ks)) (sym at) (has_cons i (f i) ks (subst (λ (n : ℕ). Has (f n) ks) at s)))
]

record FromPlace (f : ℕ → List (List ℕ)) (i : ℕ) (z : List ℕ) : Type 0 where
  place : ℕ
  rest : List ℕ
  from : i ≤ place
  has : Has (f place) rest
  is : place ∷ rest ≡ z

places_has : (f : ℕ → List (List ℕ)) (i m : ℕ) (z : List ℕ) → Has (over_places f i m) z → FromPlace f i z
places_has f i zero z h = absurd h
places_has f i (suc m) z h = elim (has_either (map (λ (l : List ℕ). i ∷ l) (f i)) (over_places f (suc i) m) z h) [
  | inl k ↦ let r = cons_has i (f i) z k in record { place = i; rest = r.0; from = omega arith; has = r.1; is = r.2 }
  | inr k ↦ let r = places_has f (suc i) m z k in record { place = r.place; rest = r.rest; from = (let low = r.from in omega arith); has = r.has; is = r.is }
]

places_once : (f : ℕ → List (List ℕ)) (i m : ℕ) → ((k : ℕ) → Distinct (f k)) → Distinct (over_places f i m)
places_once f i zero d = tt
places_once f i (suc m) d =
    distinct_append (map (λ (l : List ℕ). i ∷ l) (f i)) (over_places f (suc i) m) (cons_once i (f i) (d i)) (places_once f (suc i) m d) (λ z h g.
    let r = cons_has i (f i) z h in
    let q = places_has f (suc i) m z g in
    let at : i ≡ q.place = same_first i q.place r.0 q.rest (r.2 ∙ sym q.is) in
    let low = q.from in
    omega arith)

pub within_end : {i j k : ℕ} → i ≤ k → k ≤ j → k < i + (suc j - i)
within_end h l = omega arith

module _ (string : List ℕ) where
  pub cut_listed : (ws : List (Token ℕ)) (i j : ℕ) (ks : List ℕ) → IsCut string ws i j ks → Has (cuts_of string ws i j) ks
  cut_listed [] i j [] c = elim (nat_eq_cases i j) [ inl k ↦ rw k.1 (inl refl) | inr k ↦ absurd (k.0 c) ]
  cut_listed [] i j (k ∷ ks) c = absurd c
  cut_listed (w ∷ ws) i j [] c = absurd c
  cut_listed (Word f ∷ ws) i j (k ∷ ks) c =
      let is : stands string i f ≡ true = is_standing string i f c.0.1 c.0.2 in
      let more : Has (cuts_of string ws (suc i) j) ks = subst (λ n. Has (cuts_of string ws n j) ks) c.0.0 (cut_listed ws k j ks c.1) in
      let here : Has (map (λ (l : List ℕ). suc i ∷ l) (cuts_of string ws (suc i) j)) (k ∷ ks) =
      subst (λ (n : ℕ). Has (map (λ (l : List ℕ). suc i ∷ l) (cuts_of string ws (suc i) j)) (n ∷ ks)) (sym c.0.0) (has_cons (suc i) (cuts_of string ws (suc i) j) ks more)
      in
      rw is here
  cut_listed (Hole x ∷ ws) i j (k ∷ ks) c =
      in_places (λ n. cuts_of string ws n j) i (suc j - i) k ks c.0 (within_end c.0 (cut_up string ws k j ks c.1)) (cut_listed ws k j ks c.1)

  pub listed_cut : (ws : List (Token ℕ)) (i j : ℕ) (ks : List ℕ) → Has (cuts_of string ws i j) ks → IsCut string ws i j ks
  listed_cut [] i j ks h = elim (nat_eq_cases i j) [
    | inl k ↦ let h' = rw k.1 at h in elim h' [ inl e ↦ subst (IsCut string [] i j) e k.0 | inr b ↦ absurd b ]
    | inr k ↦ let h' = rw k.1 at h in absurd h'
  ]
  listed_cut (Word f ∷ ws) i j ks h = elim (bool_cases (stands string i f)) [
    | inl is ↦
        let h' = rw is at h in
        let r = cons_has (suc i) (cuts_of string ws (suc i) j) ks h' in
        let s = stands_is string i f is in
        subst (IsCut string (Word f ∷ ws) i j) r.2 ((refl, s.0, s.1), listed_cut ws (suc i) j r.0 r.1)
    | inr isnt ↦ let h' = rw isnt at h in absurd h'
  ]
  listed_cut (Hole x ∷ ws) i j ks h =
      let r = places_has (λ n. cuts_of string ws n j) i (suc j - i) ks h in
      subst (IsCut string (Hole x ∷ ws) i j) r.is (r.from, listed_cut ws r.place j r.rest r.has)

  pub cuts_once : (ws : List (Token ℕ)) (i j : ℕ) → Distinct (cuts_of string ws i j)
  cuts_once [] i j = elim (nat_eq_cases i j) [ inl k ↦ rw k.1 (λ h. absurd h, tt) | inr k ↦ rw k.1 tt ]
  cuts_once (Word f ∷ ws) i j = elim (bool_cases (stands string i f)) [
    | inl is ↦ rw is (cons_once (suc i) (cuts_of string ws (suc i) j) (cuts_once ws (suc i) j))
    | inr isnt ↦ rw isnt tt
  ]
  cuts_once (Hole x ∷ ws) i j = places_once (λ n. cuts_of string ws n j) i (suc j - i) (λ n. cuts_once ws n j)
