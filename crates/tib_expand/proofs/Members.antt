-- Members of lists, and sums over them.
use Rattle.std.proofs.Common.{◌≡◌, ◌⊎◌, inl, inr, ℕ, ◌+◌, ◌≤◌, List, [], ◌∷◌, ◌++◌, refl, sym, ap, subst, ◌∙◌, arith}
use Rattle.tib_lex.specs.Lists.{Has, Each, Distinct, Ascends, Along, total}
use Rattle.tib_lex.proofs.Members.{each_has, has_either}
use Rattle.tib_expand.specs.EdgeLists.{Lists}

module _ {A : Type 0} where
  -- two lists without a common member are distinct together
  pub distinct_append :
      (xs ys : List A) → Distinct xs → Distinct ys → ((x : A) → Has xs x → Has ys x → ⊥) →
      Distinct (xs ++ ys)
  distinct_append [] ys d e n = e
  distinct_append (x ∷ xs) ys d e n = (
    λ h. elim (has_either xs ys x h) [ inl k ↦ d.0 k | inr k ↦ n x (inl refl) k ],
    distinct_append xs ys d.1 e (λ y h. n y (inr h)),
  )

  -- a list without a member
  abbrev without : (ys : List A) (x : A) → Has ys x → List A
  without [] x h = []
  without (y ∷ ys) x (inl e) = ys
  without (y ∷ ys) x (inr m) = y ∷ without ys x m

  total_without : (f : A → ℕ) (ys : List A) (x : A) (h : Has ys x) → total f ys ≡ f x + total f (without ys x h)
  total_without f [] x h = absurd h
  total_without f (y ∷ ys) x (inl e) = ap (λ z. f z + total f ys) e
  total_without f (y ∷ ys) x (inr m) = let r = total_without f ys x m in omega arith

  still : (ys : List A) (x z : A) (h : Has ys x) → Has ys z → (x ≡ z → ⊥) → Has (without ys x h) z
  still [] x z h k n = absurd h
  still (y ∷ ys) x z (inl e) (inl k) n = absurd (n (sym e ∙ k))
  still (y ∷ ys) x z (inl e) (inr k) n = k
  still (y ∷ ys) x z (inr m) (inl k) n = inl k
  still (y ∷ ys) x z (inr m) (inr k) n = inr (still ys x z m k n)

  -- of distinct values each of which is in the other list, the total is at most that of the other
  -- list
  pub total_fewer : (f : A → ℕ) (xs ys : List A) → Distinct xs → ((x : A) → Has xs x → Has ys x) → total f xs ≤ total f ys
  total_fewer f [] ys d h = omega arith
  total_fewer f (x ∷ xs) ys d h =
      let m = h x (inl refl) in
      let rest : total f xs ≤ total f (without ys x m) = total_fewer f xs (without ys x m) d.1 (λ z k. still ys x z m (h z (inr k)) (λ e. d.0 (subst (Has xs) (sym e) k))) in
      let r = total_without f ys x m in
      omega arith

  module _ {Before : A → A → Type 0} (apart : (x y : A) → Before x y → Before y x → ⊥) where
    not_itself : (x y : A) → x ≡ y → Before x y → ⊥
    not_itself x y e b = let c : Before y x = subst (λ z. Before z x) e (subst (Before x) (sym e) b) in apart x y b c

    -- two ascending lists with the same members are the same
    pub same_ascending : (xs ys : List A) → Ascends Before xs → Ascends Before ys → ((x : A) → Has xs x → Has ys x) → ((x : A) → Has ys x → Has xs x) → xs ≡ ys
    same_ascending [] [] a b to from = refl
    same_ascending [] (y ∷ ys) a b to from = absurd (from y (inl refl))
    same_ascending (x ∷ xs) [] a b to from = absurd (to x (inl refl))
    same_ascending (x ∷ xs) (y ∷ ys) a b to from =
        let e : x ≡ y = elim (to x (inl refl)) [
          | inl k ↦ sym k
          | inr k ↦ elim (from y (inl refl)) [
            | inl d ↦ d
            | inr d ↦ absurd (apart x y (each_has (Before x) xs y a.0 d) (each_has (Before y) ys x b.0 k))
          ]
        ] in
        let tails : xs ≡ ys = same_ascending xs ys a.1 b.1
        (λ z h. elim (to z (inr h)) [ inl k ↦ absurd (not_itself x z (e ∙ k) (each_has (Before x) xs z a.0 h)) | inr k ↦ k ])
        (λ z h. elim (from z (inr h)) [ inl k ↦ absurd (not_itself y z (sym e ∙ k) (each_has (Before y) ys z b.0 h)) | inr k ↦ k ])
        in
        cc

module _ {O E : Type 0} (edge : O → E → Type 0) where
  -- an edge with its origin
  abbrev with_origins : List O → List E → List (O × E)
  with_origins [] es = []
  with_origins (o ∷ os) [] = []
  with_origins (o ∷ os) (e ∷ es) = (o, e) ∷ with_origins os es

  origin_has : (os : List O) (es : List E) (o : O) (e : E) → Has (with_origins os es) (o, e) → Has os o
  origin_has [] es o e h = absurd h
  origin_has (x ∷ os) [] o e h = absurd h
  origin_has (x ∷ os) (f ∷ es) o e (inl h) = inl (ap (λ (q : O × E). q.0) h)
  origin_has (x ∷ os) (f ∷ es) o e (inr h) = inr (origin_has os es o e h)

  origins_once : (os : List O) (es : List E) → Distinct os → Distinct (with_origins os es)
  origins_once [] es d = tt
  origins_once (x ∷ os) [] d = tt
  origins_once (x ∷ os) (f ∷ es) d = ((λ h. d.0 (origin_has os es x f h)), origins_once os es d.1)

  origin_gives : (os : List O) (es : List E) (o : O) (e : E) → Along edge os es → Has (with_origins os es) (o, e) → edge o e
  origin_gives [] es o e a h = absurd h
  origin_gives (x ∷ os) [] o e a h = absurd h
  origin_gives (x ∷ os) (f ∷ es) o e a (inl h) = subst (λ (q : O × E). edge q.0 q.1) h a.0
  origin_gives (x ∷ os) (f ∷ es) o e a (inr h) = origin_gives os es o e a.1 h

  stands : ((o : O) (e f : E) → edge o e → edge o f → e ≡ f) → (os : List O) (es : List E) (o : O) (e : E) → Along edge os es → Has os o → edge o e → Has (with_origins os es) (o, e)
  stands one [] es o e a h g = absurd h
  stands one (x ∷ os) [] o e a h g = absurd a
  stands one (x ∷ os) (f ∷ es) o e a (inl h) g = inl (let s = one o f e (subst (λ (z : O). edge z f) h a.0) g in λ i. (h i, s i))
  stands one (x ∷ os) (f ∷ es) o e a (inr h) g = inr (stands one os es o e a.1 h g)

  total_origins : (parts : E → ℕ) (os : List O) (es : List E) → Along edge os es → total (λ (q : O × E). parts q.1) (with_origins os es) ≡ total parts es
  total_origins parts [] [] a = refl
  total_origins parts [] (e ∷ es) a = absurd a
  total_origins parts (o ∷ os) [] a = absurd a
  total_origins parts (o ∷ os) (e ∷ es) a = let r = total_origins parts os es a.1 in omega arith

  -- all lists of the same edges have as many parts
  pub Lists-parts : (parts : E → ℕ) → ((o : O) (e f : E) → edge o e → edge o f → e ≡ f) → (es fs : List E) → Lists edge es → Lists edge fs → total parts es ≤ total parts fs
  Lists-parts parts one es fs l m =
      let a = total_origins parts l.origins es l.given in
      let b = total_origins parts m.origins fs m.given in
      let c = total_fewer (λ (q : O × E). parts q.1) (with_origins l.origins es) (with_origins m.origins fs) (origins_once l.origins es l.once)
      (λ q h. let g = origin_gives l.origins es q.0 q.1 l.given h in stands one m.origins fs q.0 q.1 m.given (m.whole q.0 q.1 g) g)
      in
      omega arith

  along_to : (other : O → E → Type 0) → ((o : O) (e : E) → edge o e → other o e) → (os : List O) (es : List E) → Along edge os es → Along other os es
  along_to other to [] [] a = tt
  along_to other to [] (e ∷ es) a = absurd a
  along_to other to (o ∷ os) [] a = absurd a
  along_to other to (o ∷ os) (e ∷ es) a = (to o e a.0, along_to other to os es a.1)

  -- a list of edges that are the same by another name
  pub Lists-to : (other : O → E → Type 0) → ((o : O) (e : E) → edge o e → other o e) → ((o : O) (e : E) → other o e → edge o e) → (es : List E) → Lists edge es → Lists other es
  Lists-to other to from es l = record {
    origins = l.origins;
    once = l.once;
    given = along_to other to l.origins es l.given;
    whole = λ o e g. l.whole o e (from o e g);
  }
