-- Pairs that are in a set.
use Rattle.std.specs.Prelude.{◌≡◌, ◌⊎◌, ℕ, ◌&&◌, ◌||◌, nat_eq, Bool, true, false, cond, not, List, [], ◌∷◌, IsTrue, refl}
use Rattle.std.specs.List.{list_any}
use Rattle.std.proofs.Common.{ap, sym, ◌∙◌, subst, inl, inr, arith}
use Rattle.std.proofs.lemmas.Bool.Decides.{nat_tests}
use Rattle.tib_lex.specs.Lists.{Has}
use Rattle.tib_lazy_lists.specs.Asks.{IsNoted}

-- whether two pairs are the same
abbrev pub same_pair : ℕ × ℕ → ℕ × ℕ → Bool
same_pair p q = nat_eq p.0 q.0 && nat_eq p.1 q.1

same_both : (a b c d : ℕ) → (nat_eq a c && nat_eq b d) ≡ true → (a ≡ c) × (b ≡ d)
same_both a b c d h = (one a b c d h, two a b c d h)
  where
    one : (a b c d : ℕ) → (nat_eq a c && nat_eq b d) ≡ true → a ≡ c
    one a b c d h = grind (arith, nat_tests)

    two : (a b c d : ℕ) → (nat_eq a c && nat_eq b d) ≡ true → b ≡ d
    two a b c d h = grind (arith, nat_tests)

same_self : (a b : ℕ) → (nat_eq a a && nat_eq b b) ≡ true
same_self a b = grind (arith, nat_tests)

pair_is : (p q : ℕ × ℕ) → same_pair p q ≡ true → p ≡ q
pair_is p q h =
    let e = same_both p.0 p.1 q.0 q.1 h in
    ap (λ (a : ℕ). paired a p.1) e.0 ∙ ap (λ (b : ℕ). paired q.0 b) e.1
  where
    paired : ℕ → ℕ → ℕ × ℕ
    paired a b = (a, b)

any_has : (p : ℕ × ℕ) (xs : List (ℕ × ℕ)) → list_any (same_pair p) xs ≡ true → Has xs p
any_has p [] h = absurd (cc)
any_has p (x ∷ xs) h = by (same_pair p x) refl h (any_has p xs)
  where
    by : (b : Bool) → same_pair p x ≡ b → (b || list_any (same_pair p) xs) ≡ true → (list_any (same_pair p) xs ≡ true → Has xs p) → Has (x ∷ xs) p
    by true e k f = inl (sym (pair_is p x e))
    by false e k f = inr (f k)

has_any : (p : ℕ × ℕ) (xs : List (ℕ × ℕ)) → Has xs p → list_any (same_pair p) xs ≡ true
has_any p [] h = absurd h
has_any p (x ∷ xs) (inl e) =
    let s : same_pair p x ≡ true = subst (λ (y : ℕ × ℕ). same_pair p y ≡ true) (sym e) (same_self p.0 p.1) in
    ap (λ (b : Bool). b || list_any (same_pair p) xs) s
has_any p (x ∷ xs) (inr h) = by (same_pair p x) (has_any p xs h)
  where
    by : (b : Bool) → list_any (same_pair p) xs ≡ true → (b || list_any (same_pair p) xs) ≡ true
    by true k = refl
    by false k = k

module _ (pairs now : List (ℕ × ℕ)) (p : ℕ × ℕ) where
  pub was_new : (new : Bool) → new ≡ not (list_any (same_pair p) pairs) → IsTrue new → Has pairs p → ⊥
  was_new new e t h = by new e t
    where
      by : (b : Bool) → b ≡ not (list_any (same_pair p) pairs) → IsTrue b → ⊥
      by b f u = let g : b ≡ false = f ∙ ap not (has_any p pairs h) in cc

  pub was_there : (new : Bool) → new ≡ not (list_any (same_pair p) pairs) → new ≡ false → Has pairs p
  was_there new e f = any_has p pairs (turn (list_any (same_pair p) pairs) (sym e ∙ f))
    where
      turn : (b : Bool) → not b ≡ false → b ≡ true
      turn true g = refl
      turn false g = absurd (cc)

  pub noted : ((q : ℕ × ℕ) → list_any (same_pair q) now ≡ cond (same_pair p q) true (list_any (same_pair q) pairs)) → IsNoted pairs p now
  noted u = record {
    to = λ z h. any_has z now (u z ∙ keep (same_pair p z) (list_any (same_pair z) pairs) (has_any z pairs h));
    new = any_has p now (u p ∙ ap (λ (b : Bool). cond b true (list_any (same_pair p) pairs)) (same_self p.0 p.1));
    from = λ z h. back z (same_pair p z) refl (sym (u z) ∙ has_any z now h);
  }
    where
      keep : (b c : Bool) → c ≡ true → cond b true c ≡ true
      keep true c e = refl
      keep false c e = e

      back : (z : ℕ × ℕ) (b : Bool) → same_pair p z ≡ b → cond b true (list_any (same_pair z) pairs) ≡ true → Has pairs z ⊎ (z ≡ p)
      back z true e k = inr (sym (pair_is p z e))
      back z false e k = inl (any_has z pairs k)
