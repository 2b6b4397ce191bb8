-- Lists side by side, member by member.
use Rattle.std.specs.Prelude.{List, [], ◌∷◌, refl, ℕ, ◌<◌, length, ◌++◌, ◌≡◌, ◌+◌, ◌⊎◌, ◌≤◌}
use Rattle.std.proofs.Common.{subst, inl, inr, zero, suc, arith, get_or, ap, sym, ◌∙◌}
use Rattle.tib_lex.specs.Lists.{Has, Along, total, Distinct}

-- the partner of a member of the first list
pub along_of : {A B : Type 0} (R : A → B → Type 0) (xs : List A) (ys : List B) (x : A) → Along R xs ys → Has xs x → (y : B) × R x y × Has ys y
along_of R [] ys x a h = absurd h
along_of R (z ∷ xs) [] x a h = absurd a
along_of R (z ∷ xs) (y ∷ ys) x a h = elim h [
  | inl e ↦ (y, subst (λ w. R w y) e a.0, inl refl)
  | inr k ↦ let r = along_of R xs ys x a.1 k in (r.0, r.1, inr r.2)
]

-- the partner of a member of the second list
pub along_back : {A B : Type 0} (R : A → B → Type 0) (xs : List A) (ys : List B) (y : B) → Along R xs ys → Has ys y → (x : A) × R x y
along_back R [] [] y a h = absurd h
along_back R [] (z ∷ ys) y a h = absurd a
along_back R (x ∷ xs) [] y a h = absurd h
along_back R (x ∷ xs) (z ∷ ys) y a h = elim h [
  | inl e ↦ (x, subst (R x) e a.0)
  | inr k ↦ along_back R xs ys y a.1 k
]

-- the partner of the element at an index
pub along_at : {A B : Type 0} (R : A → B → Type 0) (xs : List A) (ys : List B) (j : ℕ) (d : B) → Along R xs ys → j < length ys → (x : A) × R x (get_or ys j d)
along_at R [] [] j d a h = absurd (omega arith)
along_at R [] (y ∷ ys) j d a h = absurd a
along_at R (x ∷ xs) [] j d a h = absurd a
along_at R (x ∷ xs) (y ∷ ys) zero d a h = (x, a.0)
along_at R (x ∷ xs) (y ∷ ys) (suc j) d a h = along_at R xs ys j d a.1 (omega arith)

-- the index of the partner of a member
pub along_has : {A B : Type 0} (R : A → B → Type 0) (xs : List A) (ys : List B) (x : A) (d : B) → Along R xs ys → Has xs x → (j : ℕ) × (j < length ys) × R x (get_or ys j d)
along_has R [] ys x d a h = absurd h
along_has R (z ∷ xs) [] x d a h = absurd a
along_has R (z ∷ xs) (y ∷ ys) x d a h = elim h [
  | inl e ↦ (0, omega arith, subst (λ w. R w y) e a.0)
  | inr k ↦ let r = along_has R xs ys x d a.1 k in (suc r.0, omega (arith, r.1), r.2)
]

-- one more pair of partners
pub along_more : {A B : Type 0} (R : A → B → Type 0) (xs : List A) (ys : List B) (x : A) (y : B) → Along R xs ys → R x y → Along R (xs ++ x ∷ []) (ys ++ y ∷ [])
along_more R [] [] x y a r = (r, tt)
along_more R [] (b ∷ ys) x y a r = absurd a
along_more R (z ∷ xs) [] x y a r = absurd a
along_more R (z ∷ xs) (b ∷ ys) x y a r = (a.0, along_more R xs ys x y a.1 r)

-- partners after others
pub along_append : {A B : Type 0} (R : A → B → Type 0) (xs zs : List A) (ys ws : List B) → Along R xs ys → Along R zs ws → Along R (xs ++ zs) (ys ++ ws)
along_append R [] zs [] ws a b = b
along_append R [] zs (y ∷ ys) ws a b = absurd a
along_append R (x ∷ xs) zs [] ws a b = absurd a
along_append R (x ∷ xs) zs (y ∷ ys) ws a b = (a.0, along_append R xs zs ys ws a.1 b)

-- a relation that follows from another
pub along_map : {A B : Type 0} (R S : A → B → Type 0) → ((x : A) (y : B) → R x y → S x y) → (xs : List A) (ys : List B) → Along R xs ys → Along S xs ys
along_map R S f [] [] a = tt
along_map R S f [] (y ∷ ys) a = absurd a
along_map R S f (x ∷ xs) [] a = absurd a
along_map R S f (x ∷ xs) (y ∷ ys) a = (f x y a.0, along_map R S f xs ys a.1)

-- the list without one origin and its edge
record Without {O E : Type 0} (edge : O → E → Type 0) (parts : E → ℕ) (os : List O) (es : List E) (o : O) : Type 0 where
  others : List O
  edges : List E
  given : Along edge others edges
  e : E
  is : edge o e
  parts_are : total parts es ≡ parts e + total parts edges
  stays : (x : O) → Has os x → (o ≡ x) ⊎ Has others x

module _ {O E : Type 0} (edge : O → E → Type 0) (parts : E → ℕ) where
  without : (os : List O) (es : List E) (o : O) → Along edge os es → Has os o → Without edge parts os es o
  without [] es o a h = absurd h
  without (y ∷ os) [] o a h = absurd a
  without (y ∷ os) (e ∷ es) o a h = elim h [
    | inl same ↦ record {
      others = os;
      edges = es;
      given = a.1;
      e = e;
      is = subst (λ z. edge z e) same a.0;
      parts_are = refl;
      stays = λ x k. elim k [ inl m ↦ inl (sym same ∙ m) | inr m ↦ inr m ];
    }
    | inr k ↦
        let w = without os es o a.1 k in
        record {
          others = y ∷ w.others;
          edges = e ∷ w.edges;
          given = (a.0, w.given);
          e = w.e;
          is = w.is;
          parts_are = omega (arith, w.parts_are);
          stays = λ x m. elim m [ inl s ↦ inr (inl s) | inr s ↦ elim (w.stays x s) [ inl t ↦ inl t | inr t ↦ inr (inr t) ] ];
        }
  ]

  -- edges of distinct origins that are all among others have no more parts
  pub total_fewer :
      ((o : O) (e f : E) → edge o e → edge o f → e ≡ f) → (os : List O) (es : List E) (ps : List O) (fs : List E) → Distinct os → Along edge os es → Along edge ps fs →
      ((o : O) → Has os o → Has ps o) → total parts es ≤ total parts fs
  total_fewer one [] [] ps fs d a b among = omega arith
  total_fewer one [] (e ∷ es) ps fs d a b among = absurd a
  total_fewer one (o ∷ os) [] ps fs d a b among = absurd a
  total_fewer one (o ∷ os) (e ∷ es) ps fs d a b among =
      let w = without ps fs o b (among o (inl refl)) in
      let same : parts w.e ≡ parts e = ap parts (one o w.e e w.is a.0) in
      let rest : total parts es ≤ total parts w.edges = total_fewer one os es w.others w.edges d.1 a.1 w.given
      (λ x h. elim (w.stays x (among x (inr h))) [ inl s ↦ absurd (d.0 (subst (Has os) (sym s) h)) | inr k ↦ k ])
      in
      omega (arith, w.parts_are)

-- a list beside itself
pub along_self : {A : Type 0} (xs : List A) → Along (λ (x : A) (y : A). x ≡ y) xs xs
along_self [] = tt
along_self (x ∷ xs) = (refl, along_self xs)

-- a list has as many members as ones in a sum over it
pub total_one : {A : Type 0} (xs : List A) → total (λ (x : A). 1) xs ≡ length xs
total_one [] = refl
total_one (x ∷ xs) = omega (arith, total_one xs)

-- a list without doubles is no longer than one that has its members
pub no_longer : {A : Type 0} (xs ys : List A) → Distinct xs → ((x : A) → Has xs x → Has ys x) → length xs ≤ length ys
no_longer {A} xs ys once among =
    let fewer : total (λ (x : A). 1) xs ≤ total (λ (x : A). 1) ys =
    total_fewer (λ (x : A) (y : A). x ≡ y) (λ (x : A). 1) (λ o e f a b. sym a ∙ b) xs xs ys ys once (along_self xs) (along_self ys) among
    in
    omega (arith, fewer, total_one xs, total_one ys)
