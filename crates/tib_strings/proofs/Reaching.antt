-- A list has a cut exactly where the table says so.
use Rattle.std.specs.Prelude.{◌≡◌, ℕ, ◌+◌, ◌-◌, ◌<◌, ◌≤◌, List, [], ◌∷◌, Bool, true, false, refl}
use Rattle.std.proofs.Common.{zero, suc, arith, ap, sym, ◌∙◌, subst, inl, inr}
use Rattle.std.proofs.lemmas.Bool.{cases_lt}
use Rattle.tib_strings.specs.Cuts.{IsCut}
use Rattle.tib_strings.specs.CutLists.{stands, any_from, reaches}
use Rattle.tib_strings.specs.declared.Word.{Word as Token}
use Rattle.tib_strings.specs.declared.Word.TheVariants.{Word, Hole}
use Rattle.tib_lex.proofs.Numbers.{nat_eq_cases}
use Rattle.tib_lex.proofs.Booleans.{bool_cases}
use Rattle.tib_strings.proofs.Cutting.{cut_up}
use Rattle.tib_strings.proofs.CutLists.{stands_is, is_standing, within_end}

-- no truth value is both
pub true_false : (b : Bool) → b ≡ true → b ≡ false → ⊥
true_false b e f = absurd (cc (e, f))

pub any_is : (f : ℕ → Bool) (i m : ℕ) → any_from f i m ≡ true → (k : ℕ) × (i ≤ k) × (f k ≡ true)
any_is f i zero e = absurd (cc e)
any_is f i (suc m) e = elim (bool_cases (f i)) [
  | inl is ↦ (i, omega arith, is)
  | inr isnt ↦
      let e' = rw isnt at e in
      let r = any_is f (suc i) m e' in
      let low = r.1 in
      (r.0, omega arith, r.2)
]

pub is_any : (f : ℕ → Bool) (i m k : ℕ) → i ≤ k → k < i + m → f k ≡ true → any_from f i m ≡ true
is_any f i zero k h l e = absurd (omega arith)
is_any f i (suc m) k h l e = elim (bool_cases (f i)) [
  | inl is ↦ rw is refl
  | inr isnt ↦ rw isnt (elim (cases_lt i k) [
    | inl low ↦ is_any f (suc i) m k (omega arith) (omega arith) e
    | inr high ↦
        let at : k ≡ i = omega arith in
        absurd (true_false (f i) (sym (ap f at) ∙ e) isnt)
  ])
]

module _ (string : List ℕ) where
  pub reaches_cut : (ws : List (Token ℕ)) (i j : ℕ) → reaches string ws j i ≡ true → (ks : List ℕ) × IsCut string ws i j ks
  reaches_cut [] i j e = elim (nat_eq_cases i j) [
    | inl k ↦ ([], k.0)
    | inr k ↦ absurd (cc (e, k.1))
  ]
  reaches_cut (Word f ∷ ws) i j e = elim (bool_cases (stands string i f)) [
    | inl is ↦
        let e' = rw is at e in
        let r = reaches_cut ws (suc i) j e' in
        let s = stands_is string i f is in
        (suc i ∷ r.0, ((refl, s.0, s.1), r.1))
    | inr isnt ↦ let e' = rw isnt at e in absurd (cc e')
  ]
  reaches_cut (Hole x ∷ ws) i j e =
      let k = any_is (reaches string ws j) i (suc j - i) e in
      let r = reaches_cut ws k.0 j k.2 in
      (k.0 ∷ r.0, (k.1, r.1))

  pub cut_reaches : (ws : List (Token ℕ)) (i j : ℕ) (ks : List ℕ) → IsCut string ws i j ks → reaches string ws j i ≡ true
  cut_reaches [] i j [] c = elim (nat_eq_cases i j) [ inl k ↦ k.1 | inr k ↦ absurd (k.0 c) ]
  cut_reaches [] i j (k ∷ ks) c = absurd c
  cut_reaches (w ∷ ws) i j [] c = absurd c
  cut_reaches (Word f ∷ ws) i j (k ∷ ks) c =
      let is : stands string i f ≡ true = is_standing string i f c.0.1 c.0.2 in
      rw is (subst (λ n. reaches string ws j n ≡ true) c.0.0 (cut_reaches ws k j ks c.1))
  cut_reaches (Hole x ∷ ws) i j (k ∷ ks) c =
      is_any (reaches string ws j) i (suc j - i) k c.0 (within_end c.0 (cut_up string ws k j ks c.1)) (cut_reaches ws k j ks c.1)
