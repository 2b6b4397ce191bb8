-- The lists that complete some positions: those with a choice of each place, each once.
use Rattle.std.specs.Prelude.{◌≡◌, ℕ, ◌+◌, ◌<◌, List, [], ◌∷◌, ◌++◌, length, map, refl}
use Rattle.std.proofs.Common.{zero, suc, arith, ap, sym, ◌∙◌, subst, get_or, inl, inr, append_assoc}
use Rattle.tib_lex.specs.Lists.{Has, Distinct}
use Rattle.tib_lex.proofs.Lists.{head_is, tail_is, append_nil, has_mapped, mapped_has, length-more}
use Rattle.tib_lex.proofs.Members.{has_either, has_left, has_right}
use Rattle.tib_expand.proofs.Members.{distinct_append}
use Rattle.tib_difference.specs.Tries.{backwards, grown, completions}

module _ {A B : Type 0} (f : A → List B) where
  backwards_has : (xs : List A) (y : B) → Has (backwards f xs) y → (x : A) × Has xs x × Has (f x) y
  backwards_has [] y h = absurd h
  backwards_has (x ∷ xs) y h = elim (has_either (backwards f xs) (f x) y h) [
    | inl m ↦ let r = backwards_has xs y m in (r.0, inr r.1, r.2)
    | inr m ↦ (x, inl refl, m)
  ]

  has_backwards : (xs : List A) (x : A) (y : B) → Has xs x → Has (f x) y → Has (backwards f xs) y
  has_backwards [] x y h m = absurd h
  has_backwards (z ∷ xs) x y h m = elim h [
    | inl e ↦ has_right (backwards f xs) (f z) y (subst (λ (v : A). Has (f v) y) (sym e) m)
    | inr k ↦ has_left (backwards f xs) (f z) y (has_backwards xs x y k m)
  ]

  backwards_once :
      (xs : List A) → Distinct xs → ((x : A) → Distinct (f x)) →
      ((x y : A) (z : B) → Has xs x → Has xs y → Has (f x) z → Has (f y) z → x ≡ y) → Distinct (backwards f xs)
  backwards_once [] d own apart = tt
  backwards_once (x ∷ xs) d own apart =
      distinct_append (backwards f xs) (f x) (backwards_once xs d.1 own (λ v w z h k. apart v w z (inr h) (inr k))) (own x)
      (λ z h k. let b = backwards_has xs z h in d.0 (subst (λ (v : A). Has xs v) (apart b.0 x z (inr b.1) (inl refl) b.2 k) b.1))

-- values that a function tells apart
pub mapped_once : {A B : Type 0} (f : A → B) → ((x y : A) → f x ≡ f y → x ≡ y) → (xs : List A) → Distinct xs → Distinct (map f xs)
mapped_once f apart [] d = tt
mapped_once {A} f apart (x ∷ xs) d = (
  λ h. let m = has_mapped f xs (f x) h in d.0 (subst (λ (v : A). Has xs v) (apart m.0 x m.2) m.1),
  mapped_once f apart xs d.1,
)

same_behind : (ps xs ys : List ℕ) → ps ++ xs ≡ ps ++ ys → xs ≡ ys
same_behind [] xs ys e = e
same_behind (p ∷ ps) xs ys e = same_behind ps xs ys (tail_is e)

module _ (at : ℕ → List ℕ) where
  -- each is a choice of its place, of which the first is k
  abbrev pub AreChosen : ℕ → List ℕ → Type 0
  AreChosen k [] = Unit {0}
  AreChosen k (p ∷ ps) = Has (at k) p × AreChosen (suc k) ps

  pub chosen_at : (k : ℕ) (ps : List ℕ) → AreChosen k ps → (i : ℕ) → i < length ps → Has (at (k + i)) (get_or ps i 0)
  chosen_at k [] c i low = absurd (omega arith)
  chosen_at k (p ∷ ps) c zero low = let e : k ≡ k + 0 = omega arith in subst (λ m. Has (at m) p) e c.0
  chosen_at k (p ∷ ps) c (suc i) low =
      let e : suc k + i ≡ k + suc i = omega arith in
      subst (λ m. Has (at m) (get_or ps i 0)) e (chosen_at (suc k) ps c.1 i (omega arith))

  pub all_chosen : (k : ℕ) (ps : List ℕ) → ((i : ℕ) → i < length ps → Has (at (k + i)) (get_or ps i 0)) → AreChosen k ps
  all_chosen k [] f = tt
  all_chosen k (p ∷ ps) f =
      let e : k + 0 ≡ k = omega arith in (
        subst (λ m. Has (at m) p) e (f 0 (omega arith)),
        all_chosen (suc k) ps (λ i low. let s : k + suc i ≡ suc k + i = omega arith in subst (λ m. Has (at m) (get_or ps i 0)) s (f (suc i) (omega (arith, low)))),
      )

  -- a completion has choices behind the positions
  pub record IsCompletion (m : ℕ) (ps qs : List ℕ) : Type 0 where
    pub rest : List ℕ
    pub is : qs ≡ ps ++ rest
    pub long : length rest ≡ m
    pub chosen : AreChosen (length ps) rest

  pub completions_has : (m : ℕ) (ps qs : List ℕ) → Has (completions at m ps) qs → IsCompletion m ps qs
  completions_has zero ps qs h = elim h [ inl e ↦ record { rest = []; is = sym e ∙ sym (append_nil ps); long = refl; chosen = tt } | inr n ↦ absurd n ]
  completions_has (suc m) ps qs h =
      let b = backwards_has (completions at m) (grown ps (at (length ps))) qs h in
      let g = has_mapped (λ p. ps ++ p ∷ []) (at (length ps)) b.0 b.1 in
      let r = completions_has m b.0 qs b.2 in
      let next : length b.0 ≡ suc (length ps) = (let l = ap length g.2 in let k = length-more ps g.0 in omega (arith, l, k)) in
      record {
        rest = g.0 ∷ r.rest;
        is = r.is ∙ ap (λ (xs : List ℕ). xs ++ r.rest) (sym g.2) ∙ append_assoc ps (g.0 ∷ []) r.rest;
        long = ap suc r.long;
        chosen = (g.1, subst (λ k. AreChosen k r.rest) next r.chosen);
      }

  pub has_completions : (m : ℕ) (ps rs : List ℕ) → length rs ≡ m → AreChosen (length ps) rs → Has (completions at m ps) (ps ++ rs)
  has_completions zero ps [] l c = inl (sym (append_nil ps))
  has_completions zero ps (r ∷ rs) l c = absurd (omega (arith, l))
  has_completions (suc m) ps [] l c = absurd (omega (arith, l))
  has_completions (suc m) ps (r ∷ rs) l c =
      let next : suc (length ps) ≡ length (ps ++ r ∷ []) = (let k = length-more ps r in omega (arith, k)) in
      let more : Has (completions at m (ps ++ r ∷ [])) ((ps ++ r ∷ []) ++ rs) = has_completions m (ps ++ r ∷ []) rs (omega (arith, l)) (subst (λ k. AreChosen k rs) next c.1) in
      has_backwards (completions at m) (grown ps (at (length ps))) (ps ++ r ∷ []) (ps ++ r ∷ rs) (mapped_has (λ p. ps ++ p ∷ []) (at (length ps)) r c.0)
      (subst (λ (qs : List ℕ). Has (completions at m (ps ++ r ∷ [])) qs) (append_assoc ps (r ∷ []) rs) more)

  module _ (once : (i : ℕ) → Distinct (at i)) where
    pub completions_once : (m : ℕ) (ps : List ℕ) → Distinct (completions at m ps)
    completions_once zero ps = (λ h. h, tt)
    completions_once (suc m) ps =
        backwards_once (completions at m) (grown ps (at (length ps)))
        (mapped_once (λ p. ps ++ p ∷ []) (λ p q e. head_is (same_behind ps (p ∷ []) (q ∷ []) e)) (at (length ps)) (once (length ps)))
        (λ qs. completions_once m qs)
        (λ xs ys qs h k x y.
        let g = has_mapped (λ p. ps ++ p ∷ []) (at (length ps)) xs h in
        let d = has_mapped (λ p. ps ++ p ∷ []) (at (length ps)) ys k in
        let a = completions_has m xs qs x in
        let b = completions_has m ys qs y in
        let one : qs ≡ ps ++ g.0 ∷ a.rest = a.is ∙ ap (λ (zs : List ℕ). zs ++ a.rest) (sym g.2) ∙ append_assoc ps (g.0 ∷ []) a.rest in
        let two : qs ≡ ps ++ d.0 ∷ b.rest = b.is ∙ ap (λ (zs : List ℕ). zs ++ b.rest) (sym d.2) ∙ append_assoc ps (d.0 ∷ []) b.rest in
        let same : g.0 ≡ d.0 = head_is (same_behind ps (g.0 ∷ a.rest) (d.0 ∷ b.rest) (sym one ∙ two)) in
        sym g.2 ∙ ap (λ p. ps ++ p ∷ []) same ∙ d.2)
