-- Which trees are in a list, and how many.
use Rattle.std.specs.Prelude.{◌≡◌, ℕ, ◌≤◌, ◌⊎◌, List, [], ◌∷◌, length, refl}
use Rattle.std.proofs.Common.{suc, arith, ap, sym, ◌∙◌, inl, inr}
use Rattle.tib_lex.specs.Lists.{Has, Each}
use Rattle.tib_tree.specs.Trees.{Tree, Trees, none, tree}
use Rattle.tib_lex.proofs.Members.{each_has, each_of}
use Rattle.tib_ranked_trees.specs.Pass.{HasTree}
use Rattle.tib_ranked_trees.proofs.Opening.{pair_same}

nat_two : (a b : ℕ) → (a ≡ b) ⊎ (a ≡ b → ⊥)
nat_two a b = grind arith

trees_two : (ts us : Trees ℕ) → (ts ≡ us) ⊎ (ts ≡ us → ⊥)
trees_two none none = inl refl
trees_two none (tree g ls more) = inr (λ e. cc)
trees_two (tree f ks rest) none = inr (λ e. cc)
trees_two (tree f ks rest) (tree g ls more) = elim (nat_two f g) [
  | inr n ↦ inr (λ e. n (cc e))
  | inl a ↦ elim (trees_two ks ls) [
    | inr n ↦ inr (λ e. n (cc e))
    | inl b ↦ elim (trees_two rest more) [
      | inr n ↦ inr (λ e. n (cc e))
      | inl c ↦ inl (cc (a, b, c))
    ]
  ]
]

pub tree_same : (s t : Tree ℕ) → s.label ≡ t.label → s.kids ≡ t.kids → s ≡ t
tree_same s t f k = ap (λ l. record { label = l; kids = s.kids }) f ∙ ap (λ ks. record { label = t.label; kids = ks }) k

tree_two : (s t : Tree ℕ) → (s ≡ t) ⊎ (s ≡ t → ⊥)
tree_two s t = elim (nat_two s.label t.label) [
  | inr n ↦ inr (λ e. n (ap (λ (u : Tree ℕ). u.label) e))
  | inl a ↦ elim (trees_two s.kids t.kids) [
    | inr n ↦ inr (λ e. n (ap (λ (u : Tree ℕ). u.kids) e))
    | inl b ↦ inl (tree_same s t a b)
  ]
]

-- whether a tree is in a list
pub has_tree_or : (xs : List (Tree ℕ × ℕ)) (t : Tree ℕ) → HasTree xs t ⊎ (HasTree xs t → ⊥)
has_tree_or [] t = inr (λ h. h.1)
has_tree_or (x ∷ xs) t = elim (tree_two x.0 t) [
  | inl e ↦ inl (x.1, inl (ap (λ s. (s, x.1)) e))
  | inr n ↦ elim (has_tree_or xs t) [
    | inl h ↦ inl (h.0, inr h.1)
    | inr m ↦ inr (λ h. elim h.1 [ inl e ↦ n (ap (λ (y : Tree ℕ × ℕ). y.0) e) | inr k ↦ m (h.0, k) ])
  ]
]

pub has_or : (xs : List (Tree ℕ × ℕ)) (z : Tree ℕ × ℕ) → Has xs z ⊎ (Has xs z → ⊥)
has_or [] z = inr (λ h. h)
has_or (x ∷ xs) z = elim (tree_two x.0 z.0) [
  | inr n ↦ next (λ e. n (ap (λ (y : Tree ℕ × ℕ). y.0) e)) (has_or xs z)
  | inl a ↦ elim (nat_two x.1 z.1) [
    | inr n ↦ next (λ e. n (ap (λ (y : Tree ℕ × ℕ). y.1) e)) (has_or xs z)
    | inl b ↦ inl (inl (pair_same x z (ap (λ (u : Tree ℕ). u.label) a) (ap (λ (u : Tree ℕ). u.kids) a) b))
  ]
]
  where
    next : (x ≡ z → ⊥) → (Has xs z ⊎ (Has xs z → ⊥)) → Has (x ∷ xs) z ⊎ (Has (x ∷ xs) z → ⊥)
    next n (inl h) = inl (inr h)
    next n (inr m) = inr (λ h. elim h [ inl e ↦ n e | inr k ↦ m k ])

-- a list without one member
record Without {A : Type 0} (ys : List A) (y : A) : Type 0 where
  rest : List A
  long : suc (length rest) ≡ length ys
  still : (x : A) → Has ys x → (x ≡ y → ⊥) → Has rest x

without : {A : Type 0} (ys : List A) (y : A) → Has ys y → Without ys y
without [] y h = absurd h
without (z ∷ ys) y (inl e) = record { rest = ys; long = refl; still = λ x h n. elim h [ inl d ↦ absurd (n (sym d ∙ e)) | inr k ↦ k ] }
without (z ∷ ys) y (inr h) =
    let w = without ys y h in
    record {
      rest = z ∷ w.rest;
      long = ap suc w.long;
      still = λ x k n. elim k [ inl d ↦ inl d | inr j ↦ inr (w.still x j n) ];
    }

-- what is made of the members is different for each
abbrev pub AreApart : {A : Type 0} → (A → Tree ℕ) → List A → Type 0
AreApart f [] = Unit {0}
AreApart f (x ∷ xs) = Each (λ y. f x ≡ f y → ⊥) xs × AreApart f xs

-- as many trees as members are in a list that has a different tree for each
pub no_fewer : {A : Type 0} (f : A → Tree ℕ) (xs : List A) (ys : List (Tree ℕ × ℕ)) → AreApart f xs → Each (λ x. HasTree ys (f x)) xs → length xs ≤ length ys
no_fewer f [] ys a e = omega arith
no_fewer f (x ∷ xs) ys a e =
    let w = without ys (f x, e.0.0) e.0.1 in
    let rest : length xs ≤ length w.rest =
    no_fewer f xs w.rest a.1
    (each_of (λ y. HasTree w.rest (f y)) xs (λ y h.
    let k = each_has (λ z. HasTree ys (f z)) xs y e.1 h in
    (k.0, w.still (f y, k.0) k.1 (λ d. each_has (λ z. f x ≡ f z → ⊥) xs y a.0 h (sym (ap (λ (p : Tree ℕ × ℕ). p.0) d))))))
    in
    omega (arith, rest, w.long)

-- a member of which the tree is not listed, or all trees are
pub some_new : {A : Type 0} (f : A → Tree ℕ) (ys : List (Tree ℕ × ℕ)) (xs : List A) → ((x : A) × Has xs x × (HasTree ys (f x) → ⊥)) ⊎ Each (λ x. HasTree ys (f x)) xs
some_new f ys [] = inr tt
some_new f ys (x ∷ xs) = elim (has_tree_or ys (f x)) [
  | inr n ↦ inl (x, inl refl, n)
  | inl h ↦ elim (some_new f ys xs) [
    | inl s ↦ inl (s.0, inr s.1, s.2)
    | inr all ↦ inr (h, all)
  ]
]
