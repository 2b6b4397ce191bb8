-- Fronts of ordered sets.
use Rattle.std.specs.Prelude.{◌≡◌, ℕ, ◌-◌, ◌<◌, ◌⊎◌, List, [], ◌∷◌, ◌++◌, length, refl}
use Rattle.std.proofs.Common.{arith, sym, ◌∙◌, subst, inl, inr}
use Rattle.tib_lex.specs.Lists.{Has, Each, Ascends}
use Rattle.tib_lex.proofs.Members.{each_has, each_of, each_more, has_left}
use Rattle.tib_ranked_trees.specs.First.{IsStrict, NoLater, IsFirst, IsFront, IsNext}

module _ {A : Type 0} {Before : A → A → Type 0} (strict : IsStrict Before) where
  pub not_itself : (x y : A) → x ≡ y → Before x y → ⊥
  not_itself x y e b = let c : Before y x = subst (λ z. Before z x) e (subst (Before x) (sym e) b) in strict.apart x y b c

  pub no_later_trans : (x y z : A) → NoLater Before x y → NoLater Before y z → NoLater Before x z
  no_later_trans x y z (inl e) h = subst (λ w. NoLater Before w z) (sym e) h
  no_later_trans x y z (inr b) (inl e) = inr (subst (Before x) e b)
  no_later_trans x y z (inr b) (inr c) = inr (strict.carries x y z b c)

  pub no_later_same : (x y : A) → NoLater Before x y → NoLater Before y x → x ≡ y
  no_later_same x y (inl e) h = e
  no_later_same x y (inr b) (inl e) = sym e
  no_later_same x y (inr b) (inr c) = absurd (strict.apart x y b c)

  ascends_more : (xs : List A) (y : A) → Ascends Before xs → Each (λ x. Before x y) xs → Ascends Before (xs ++ y ∷ [])
  ascends_more [] y a e = (tt, tt)
  ascends_more (x ∷ xs) y a e = (each_more (Before x) xs y a.0 e.0, ascends_more xs y a.1 e.1)

  -- a front grows by the next member
  pub front_more : (S : A → Type 0) (xs : List A) (c : A) → IsFront S Before xs → IsNext S Before xs c → IsFront S Before (xs ++ c ∷ [])
  front_more S xs c f n = record {
    members = each_more S xs c f.members n.member;
    ascends = ascends_more xs c f.ascends (f.others c n.member n.new);
    others = λ y s new.
        let out : Has xs y → ⊥ = λ h. new (has_left xs (c ∷ []) y h) in
        each_more (λ x. Before x y) xs c (f.others y s out) (later y s new (n.least y s out));
  }
    where
      later : (y : A) → S y → (Has (xs ++ c ∷ []) y → ⊥) → NoLater Before c y → Before c y
      later y s new (inr b) = b
      later y s new (inl e) = absurd (new (last xs e))
        where
          last : (zs : List A) → c ≡ y → Has (zs ++ c ∷ []) y
          last [] e = inl e
          last (z ∷ zs) e = inr (last zs e)

  -- a front of k members, or of all, is the first k
  pub front_first : (S : A → Type 0) (k : ℕ) (xs : List A) → IsFront S Before xs → length xs ≡ k → IsFirst S Before k xs
  front_first S k xs f e = record {
    members = f.members;
    ascends = f.ascends;
    few = omega (arith, e);
    others = λ y s new. (e, f.others y s new);
  }

  pub front_all : (S : A → Type 0) (k : ℕ) (xs : List A) → IsFront S Before xs → length xs < k → ((y : A) → S y → (Has xs y → ⊥) → ⊥) → IsFirst S Before k xs
  front_all S k xs f e all = record {
    members = f.members;
    ascends = f.ascends;
    few = omega arith;
    others = λ y s new. absurd (all y s new);
  }

  -- two ascending lists with the same members are the same
  pub same_ascending :
      (xs ys : List A) → Ascends Before xs → Ascends Before ys → ((x : A) → Has xs x → Has ys x) → ((x : A) → Has ys x → Has xs x) → xs ≡ ys
  same_ascending [] [] a b to from = refl
  same_ascending [] (y ∷ ys) a b to from = absurd (from y (inl refl))
  same_ascending (x ∷ xs) [] a b to from = absurd (to x (inl refl))
  same_ascending (x ∷ xs) (y ∷ ys) a b to from =
      let e : x ≡ y = elim (to x (inl refl)) [
        | inl k ↦ sym k
        | inr k ↦ elim (from y (inl refl)) [
          | inl d ↦ d
          | inr d ↦ absurd (strict.apart x y (each_has (Before x) xs y a.0 d) (each_has (Before y) ys x b.0 k))
        ]
      ] in
      let tails : xs ≡ ys = same_ascending xs ys a.1 b.1
      (λ z h. elim (to z (inr h)) [ inl k ↦ absurd (not_itself x z (e ∙ k) (each_has (Before x) xs z a.0 h)) | inr k ↦ k ])
      (λ z h. elim (from z (inr h)) [ inl k ↦ absurd (not_itself y z (sym e ∙ k) (each_has (Before y) ys z b.0 h)) | inr k ↦ k ])
      in
      cc

  absent : (S : A → Type 0) (k : ℕ) (x y : A) (ys : List A) → S x → Before x y → IsFirst S Before k (y ∷ ys) → ⊥
  absent S k x y ys s b h =
      strict.apart x y b
      (h.others x s (λ m. elim m [
        | inl e ↦ not_itself x y (sym e) b
        | inr d ↦ strict.apart x y b (each_has (Before y) ys x h.ascends.0 d)
      ])).1.0

  tail_of : (S : A → Type 0) (k : ℕ) (x : A) (xs : List A) → IsFirst S Before k (x ∷ xs) → IsFirst (λ a. S a × (a ≡ x → ⊥)) Before (k - 1) xs
  tail_of S k x xs h = record {
    members = each_of (λ a. S a × (a ≡ x → ⊥)) xs (λ z m. (each_has S xs z h.members.1 m, λ e. not_itself x z (sym e) (each_has (Before x) xs z h.ascends.0 m)));
    ascends = h.ascends.1;
    few = omega (arith, h.few);
    others = λ z s no. let o = h.others z s.0 (λ m. elim m [ inl e ↦ s.1 (sym e) | inr d ↦ no d ]) in (omega (arith, o.0), o.1.1);
  }

  -- there is one list of the first k members
  pub IsFirst-unique :
      (S : A → Type 0) (k : ℕ) (xs ys : List A) → ((x y : A) → S x → S y → Before x y ⊎ ((x ≡ y) ⊎ Before y x)) →
      IsFirst S Before k xs → IsFirst S Before k ys → xs ≡ ys
  IsFirst-unique S k [] [] total h g = refl
  IsFirst-unique S k [] (y ∷ ys) total h g = let o : 0 ≡ k = (h.others y g.members.0 (λ m. m)).0 in absurd (omega (arith, g.few))
  IsFirst-unique S k (x ∷ xs) [] total h g = let o : 0 ≡ k = (g.others x h.members.0 (λ m. m)).0 in absurd (omega (arith, h.few))
  IsFirst-unique S k (x ∷ xs) (y ∷ ys) total h g = elim (total x y h.members.0 g.members.0) [
    | inl b ↦ absurd (absent S k x y ys h.members.0 b g)
    | inr o ↦ elim o [
      | inr b ↦ absurd (absent S k y x xs g.members.0 b h)
      | inl e ↦
          let again : IsFirst S Before k (x ∷ ys) = subst (λ z. IsFirst S Before k (z ∷ ys)) (sym e) g in
          let tails : xs ≡ ys = IsFirst-unique (λ a. S a × (a ≡ x → ⊥)) (k - 1) xs ys (λ a b s t. total a b s.0 t.0) (tail_of S k x xs h) (tail_of S k x ys again) in
          cc
    ]
  ]
