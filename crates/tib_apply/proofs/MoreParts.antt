-- Edges that have more parts than a budget.
use Rattle.std.specs.Prelude.{◌≡◌, ◌⊎◌, ℕ, ◌+◌, ◌*◌, ◌/◌, ◌<◌, ◌≤◌, List, [], ◌∷◌, length, map}
use Rattle.std.specs.declared.result.Result.{Result}
use Rattle.std.proofs.Common.{Err, suc, arith, ap, sym, ◌∙◌, subst, inl, inr}
use Rattle.std.proofs.lemmas.Nat.{le-div}
use Rattle.std.proofs.Math.Nat.{suc-mul, zero-mul}
use Rattle.std.proofs.lemmas.Cmp.{nat_list_cmp_total}
use Rattle.std.specs.Ordering.{nat_cmp}
use Rattle.std.specs.Cmp.Lexicographic.{slice_cmp}
use Rattle.std.specs.declared.cmp.Ordering.TheVariants.{Less}
use Rattle.tib_lex.specs.Lists.{Has, Each, Distinct, Ascends, total}
use Rattle.tib_lex.proofs.Lists.{has_mapped}
use Rattle.tib_lex.proofs.Members.{each_has}
use Rattle.tib_grammar.specs.declared.Rule.{Rule}
use Rattle.tib_expand.proofs.Reaching.{apart}
use Rattle.tib_apply.specs.Operations.{edge_parts}

-- the origins of ascending matches are apart
pub origins_apart : (i : ℕ) (ms : List (List ℕ × ℕ)) → Ascends (λ (a : List ℕ × ℕ) (b : List ℕ × ℕ). slice_cmp nat_cmp a.0 b.0 ≡ Less) ms → Distinct {A = ℕ × List ℕ} (map (λ m. (i, m.0)) ms)
origins_apart i [] a = tt
origins_apart i (m ∷ ms) a = (
  λ h.
      let x = has_mapped (λ (n : List ℕ × ℕ). (i, n.0)) ms (i, m.0) h in
      let later = each_has (λ (y : List ℕ × ℕ). slice_cmp nat_cmp m.0 y.0 ≡ Less) ms x.0 a.0 x.1 in
      itself m.0 (subst (λ z. slice_cmp nat_cmp m.0 z ≡ Less) (ap (λ (o : ℕ × List ℕ). o.1) x.2) later),
  origins_apart i ms a.1,
)
  where
    itself : (z : List ℕ) → slice_cmp nat_cmp z z ≡ Less → ⊥
    itself z l = apart (slice_cmp nat_cmp) nat_list_cmp_total z z l l

-- what a number of edges of one size have
pub total_same : (parts : ℕ) (f : List ℕ × ℕ → Rule (ℕ × ℕ × ℕ)) (ms : List (List ℕ × ℕ)) → ((m : List ℕ × ℕ) → edge_parts (f m) ≡ parts) → total edge_parts (map f ms) ≡ length ms * parts
total_same parts f [] same = none parts
  where
    none : (k : ℕ) → 0 ≡ 0 * k
    none k = sym (zero-mul k)
total_same parts f (m ∷ ms) same = ap (λ n. n + total edge_parts (map f ms)) (same m) ∙ ap (λ n. parts + n) (total_same parts f ms same) ∙ one_more parts (length ms)
  where
    one_more : (k n : ℕ) → k + n * k ≡ suc n * k
    one_more k n = omega (arith, suc-mul n k)

-- more edges than the budget has room for
pub more_parts : (budget parts many : ℕ) → 0 < parts → budget / parts < many → budget < many * parts
more_parts budget parts many some more = elim (order (many * parts) budget) [
  | inl h ↦ absurd (let low = le-div many budget parts some h in omega (arith, low, more))
  | inr h ↦ h
]
  where
    order : (a b : ℕ) → (a ≤ b) ⊎ (b < a)
    order a b = grind arith

-- an error in the place of another value's error
pub same_fault : {T U E : Type 0} (f g : E) → ◌≡◌ {A = Result T E} (Err f) (Err g) → ◌≡◌ {A = Result U E} (Err f) (Err g)
same_fault f g e = let same : f ≡ g = cc e in ap Err same
