-- The positions whose vectors have the start, and where the rules of the started grammar are.
use Rattle.std.specs.Prelude.{◌≡◌, ℕ, ◌+◌, ◌<◌, List, [], ◌∷◌, length, map, refl, Option, None, Some}
use Rattle.std.proofs.Common.{zero, suc, arith, ap, ◌∙◌, inl, inr, get_or, length-append}
use Rattle.tib_lex.specs.Lists.{Has}
use Rattle.tib_lex.proofs.Numbers.{nat_eq_cases}
use Rattle.tib_lex.proofs.Places.{get_map}
use Rattle.tib_lex.proofs.Lists.{length_map}
use Rattle.tib_grammar.specs.Run.{rule_at, no_rule}
use Rattle.tib_grammar.specs.GrammarOf.{named_rule}
use Rattle.tib_grammar.specs.declared.Rule.{Rule}
use Rattle.tib_determinize.specs.Vectors.{VectorOf, vector_at}
use Rattle.tib_determinize.specs.Started.{start_in, with_final, finals, chain_to, started}
use Rattle.tib_determinize.specs.ListLemmas.{get_left, get_right}

-- the residual of the start is in the vector
pub start_has : (v : VectorOf) (r : ℕ) → start_in v ≡ Some r → Has {A = ℕ × ℕ} v (0, r)
start_has [] r e = absurd (cc)
start_has (x ∷ v) r e = elim (nat_eq_cases x.0 0) [
  | inl k ↦ let d = rw k.1 at e in let s : x.1 ≡ r = cc in inl (ap (λ a. (a, x.1)) k.0 ∙ ap (λ b. (0, b)) s)
  | inr k ↦ inr (start_has v r (rw k.1 at e))
]

-- a start that is in the vector has a residual
pub has_start : (v : VectorOf) (r : ℕ) → Has {A = ℕ × ℕ} v (0, r) → (s : ℕ) × (start_in v ≡ Some s)
has_start [] r h = absurd h
has_start (x ∷ v) r h = elim (nat_eq_cases x.0 0) [
  | inl k ↦ (x.1, rw k.1)
  | inr k ↦ elim h [
    | inl e ↦ absurd (k.0 (ap (λ (z : ℕ × ℕ). z.0) e))
    | inr m ↦ let s = has_start v r m in (s.0, rw k.1 s.1)
  ]
]

-- what is among the finals
pub record IsFinal (i : ℕ) (order : List VectorOf) (p : ℕ × ℕ) : Type 0 where
  pub position : ℕ
  pub is : p.0 ≡ i + position
  pub below : position < length order
  pub residual : start_in (vector_at order position) ≡ Some p.1

next_final : (i : ℕ) (v : VectorOf) (order : List VectorOf) (p : ℕ × ℕ) → IsFinal (suc i) order p → IsFinal i (v ∷ order) p
next_final i v order p f = record { position = suc f.position; is = omega (arith, f.is); below = omega (arith, f.below); residual = f.residual }

-- each of the finals is a position with its residual
pub final_is : (i : ℕ) (order : List VectorOf) (n : ℕ) (d : ℕ × ℕ) → n < length (finals i order) → IsFinal i order (get_or (finals i order) n d)
final_is i [] n d h = absurd (omega arith)
final_is i (v ∷ order) n d h = by (λ m lt. next_final i v order (get_or (finals (suc i) order) m d) (final_is (suc i) order m d lt)) (start_in v) refl n h
  where
    by :
        ((m : ℕ) → m < length (finals (suc i) order) → IsFinal i (v ∷ order) (get_or (finals (suc i) order) m d)) → (o : Option ℕ) → start_in v ≡ o → (m : ℕ) →
        m < length (with_final i o (finals (suc i) order)) → IsFinal i (v ∷ order) (get_or (with_final i o (finals (suc i) order)) m d)
    by again None e m lt = again m lt
    by again (Some r) e zero lt = record { position = 0; is = omega arith; below = omega arith; residual = e }
    by again (Some r) e (suc m) lt = again m (omega arith)

-- each position that has the start is among the finals
pub is_final :
    (i : ℕ) (order : List VectorOf) (k r : ℕ) (d : ℕ × ℕ) → k < length order → start_in (vector_at order k) ≡ Some r →
    (n : ℕ) × (n < length (finals i order)) × (get_or (finals i order) n d ≡ (i + k, r))
is_final i [] k r d h e = absurd (omega arith)
is_final i (v ∷ order) zero r d h e =
    let z : i ≡ i + 0 = omega arith in
    rw e (0, omega arith, ap (λ a. (a, r)) z)
is_final i (v ∷ order) (suc k) r d h e =
    let z : suc i + k ≡ i + suc k = omega arith in
    let a = is_final (suc i) order k r d (omega arith) e in
    by (start_in v) (a.0, a.1, a.2 ∙ ap (λ b. (b, r)) z)
  where
    by :
        (o : Option ℕ) → (n : ℕ) × (n < length (finals (suc i) order)) × (get_or (finals (suc i) order) n d ≡ (i + suc k, r)) →
        (n : ℕ) × (n < length (with_final i o (finals (suc i) order))) × (get_or (with_final i o (finals (suc i) order)) n d ≡ (i + suc k, r))
    by None a = a
    by (Some s) a = (suc a.0, omega (arith, a.1), a.2)

-- each position is among the finals at most once
pub one_final :
    (i : ℕ) (order : List VectorOf) (m n : ℕ) (d : ℕ × ℕ) → m < length (finals i order) → n < length (finals i order) →
    (get_or (finals i order) m d).0 ≡ (get_or (finals i order) n d).0 → m ≡ n
one_final i [] m n d h k e = absurd (omega arith)
one_final i (v ∷ order) m n d h k e = by (λ a b s t. one_final (suc i) order a b d s t) (start_in v) m n h k e
  where
    later : (a : ℕ) → a < length (finals (suc i) order) → i < (get_or (finals (suc i) order) a d).0
    later a s = let f = final_is (suc i) order a d s in let is = f.is in omega arith

    by :
        ((a b : ℕ) → a < length (finals (suc i) order) → b < length (finals (suc i) order) → (get_or (finals (suc i) order) a d).0 ≡ (get_or (finals (suc i) order) b d).0 → a ≡ b) →
        (o : Option ℕ) → (a b : ℕ) → a < length (with_final i o (finals (suc i) order)) → b < length (with_final i o (finals (suc i) order)) →
        (get_or (with_final i o (finals (suc i) order)) a d).0 ≡ (get_or (with_final i o (finals (suc i) order)) b d).0 → a ≡ b
    by again None a b s t e = again a b s t e
    by again (Some r) zero zero s t e = refl
    by again (Some r) zero (suc b) s t e = absurd (let l = later b (omega arith) in omega arith)
    by again (Some r) (suc a) zero s t e = absurd (let l = later a (omega arith) in omega arith)
    by again (Some r) (suc a) (suc b) s t e = ap suc (again a b (omega arith) (omega arith) e)

module _ (order : List VectorOf) (new : List (Rule ℕ)) where
  -- as many rules as finals and rules
  pub all_long : length (started order new) ≡ length (finals 0 order) + length new
  all_long = length-append (map chain_to (finals 0 order)) (map (named_rule suc) new) ∙ omega (arith, length_map chain_to (finals 0 order), length_map (named_rule suc) new)

  -- the first rules are the chain rules
  pub chain_at : (n : ℕ) → n < length (finals 0 order) → rule_at (started order new) n ≡ chain_to (get_or (finals 0 order) n (0, 0))
  chain_at n h =
      get_left (map chain_to (finals 0 order)) (map (named_rule suc) new) n no_rule (omega (arith, length_map chain_to (finals 0 order)))
      ∙ get_map chain_to (finals 0 order) n no_rule (0, 0) h

  -- after them are the rules over positions
  pub shifted_at : (n j : ℕ) → n ≡ length (finals 0 order) + j → j < length new → rule_at (started order new) n ≡ named_rule suc (rule_at new j)
  shifted_at n j e h =
      get_right (map chain_to (finals 0 order)) (map (named_rule suc) new) n j no_rule (omega (arith, length_map chain_to (finals 0 order)))
      ∙ get_map (named_rule suc) new j no_rule no_rule h
