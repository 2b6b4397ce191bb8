-- Members of a filtered list.
use Rattle.std.specs.Prelude.{◌≡◌, List, [], ◌∷◌, filter, Bool, true, cond}
use Rattle.std.proofs.Common.{ap, sym, ◌∙◌, subst, inl, inr}
use Rattle.tib_lex.specs.Lists.{Has}
use Rattle.tib_lex.proofs.Booleans.{bool_cases}

-- what a filter keeps
pub filtered_has : {A : Type 0} (test : A → Bool) (xs : List A) (x : A) → Has (filter test xs) x → Has xs x × (test x ≡ true)
filtered_has test [] x h = absurd h
filtered_has {A} test (y ∷ ys) x h = elim (bool_cases (test y)) [
  | inl t ↦
      let k : Has (y ∷ filter test ys) x = subst (λ (b : Bool). Has (cond b (y ∷ filter test ys) (filter test ys)) x) t h in
      elim k [
        | inl e ↦ (inl e, subst (λ (z : A). test z ≡ true) e t)
        | inr m ↦ let f = filtered_has test ys x m in (inr f.0, f.1)
      ]
  | inr t ↦
      let k : Has (filter test ys) x = subst (λ (b : Bool). Has (cond b (y ∷ filter test ys) (filter test ys)) x) t h in
      let f = filtered_has test ys x k in
      (inr f.0, f.1)
]

-- a member that passes the test is kept
pub has_filtered : {A : Type 0} (test : A → Bool) (xs : List A) (x : A) → Has xs x → test x ≡ true → Has (filter test xs) x
has_filtered test [] x h t = absurd h
has_filtered {A} test (y ∷ ys) x h t = elim h [
  | inl e ↦
      let u : test y ≡ true = ap test e ∙ t in
      subst (λ (b : Bool). Has (cond b (y ∷ filter test ys) (filter test ys)) x) (sym u) (inl e)
  | inr m ↦ elim (bool_cases (test y)) [
    | inl u ↦ subst (λ (b : Bool). Has (cond b (y ∷ filter test ys) (filter test ys)) x) (sym u) (inr (has_filtered test ys x m t))
    | inr u ↦ subst (λ (b : Bool). Has (cond b (y ∷ filter test ys) (filter test ys)) x) (sym u) (has_filtered test ys x m t)
  ]
]
