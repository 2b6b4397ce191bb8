-- The worked example.
use Rattle.std.specs.Prelude.{◌≡◌, ℕ, ◌+◌, ◌<◌, ◌≤◌, List, [], ◌∷◌, refl}
use Rattle.std.proofs.Common.{zero, suc, arith, sym, inl, inr}
use Rattle.tib_lex.specs.Lists.{Has}
use Rattle.tib_tree.specs.Trees.{Trees, none, tree}
use Rattle.tib_grammar.specs.Range.{AllBelow}
use Rattle.tib_grammar.specs.Run.{rule_at, AreRuns, cost}
use Rattle.tib_cost.specs.Semiring.{sum_laws}
use Rattle.tib_cost.proofs.Least.{IsLeast-none}
use Rattle.tib_inside.specs.Inside.{IsInside}
use Rattle.tib_prune.specs.Contexts.{Context, gap, below, later, AreRunsAround}
use Rattle.tib_prune.specs.Outside.{IsOutside}
use Rattle.tib_prune.specs.Pruned.{IsKept, ArePruned, AreCosts}
use Rattle.tib_prune.specs.Examples.{branching, insides, outsides}
use Rattle.tib_prune.proofs.Through.{kept_to, kept_from}

-- each run is from state 0, and costs 2 or more
least_two : (runs : Trees ℕ) (q : ℕ) (qs : List ℕ) → AreRuns branching (q ∷ qs) runs → (2 ≤ cost ◌+◌ branching runs) × (q ≡ 0)
least_two none q qs a = absurd a
least_two (tree zero inner rest) q qs a = let i = least_two inner 0 (0 ∷ []) a.2 in (omega (arith, i.0), sym a.1)
least_two (tree (suc zero) inner rest) q qs a = (omega arith, sym a.1)
least_two (tree (suc (suc n)) inner rest) q qs a = absurd (omega (arith, a.0))

around_zero : (c : Context ℕ) (q : ℕ) (qs : List ℕ) → AllBelow 1 qs → AreRunsAround branching q qs c → q < 1
around_zero c q [] b a = absurd a
around_zero (gap rest) q (p ∷ qs) b a = omega (arith, a.0, b.0)
around_zero (below zero c rest) q (p ∷ qs) b a = around_zero c q (0 ∷ 0 ∷ []) (omega arith, (omega arith, tt)) a.2
around_zero (below (suc zero) c rest) q (p ∷ qs) b a = absurd a.2
around_zero (below (suc (suc n)) c rest) q (p ∷ qs) b a = absurd (omega (arith, a.0))
around_zero (later n runs c) q (p ∷ qs) b a = around_zero c q qs b.1 a.3

are_insides : (q : ℕ) → IsInside ◌+◌ branching q (insides q)
are_insides zero = record {
  attained = (record { runs = tree 1 none none; are_runs = (omega arith, refl, tt, tt); costs = refl }, omega arith);
  lower = λ n r b. let l = least_two r.runs 0 [] r.are_runs in omega (arith, l.0, r.costs);
}
are_insides (suc q) = IsLeast-none (λ n r. let l = least_two r.runs (suc q) [] r.are_runs in omega (arith, l.1))

are_outsides : (q : ℕ) → IsOutside ◌+◌ branching q (outsides q)
are_outsides zero = record {
  attained = (record { context = gap none; are_runs = (refl, tt); costs = refl }, omega arith);
  lower = λ n r b. omega arith;
}
are_outsides (suc q) = IsLeast-none (λ n r. let l = around_zero r.context (suc q) (0 ∷ []) (omega arith, tt) r.are_runs in omega (arith, l))

-- these are the inside and outside costs
pub costs : AreCosts ◌+◌ branching insides outsides
costs = record { are_insides = are_insides; are_outsides = are_outsides }

narrow_from : (n : ℕ) → n < 2 → IsKept ◌+◌ branching 2 n → Has (1 ∷ []) n
narrow_from zero h k = let l : 5 ≤ 2 + 2 = kept_from sum_laws branching insides outsides costs 2 2 0 refl k in absurd (omega (arith, l))
narrow_from (suc zero) h k = inl refl
narrow_from (suc (suc n)) h k = absurd (omega (arith, h))

narrow_to : (n : ℕ) → Has (1 ∷ []) n → IsKept ◌+◌ branching 2 n
narrow_to zero h = elim h [ inl e ↦ absurd (omega (arith, e)) | inr e ↦ absurd e ]
narrow_to (suc zero) h = kept_to sum_laws branching insides outsides costs 2 2 1 refl (omega arith) (omega arith)
narrow_to (suc (suc n)) h = elim h [ inl e ↦ absurd (omega (arith, e)) | inr e ↦ absurd e ]

-- a beam of 2 keeps the second rule
pub narrow : ArePruned ◌+◌ branching 2 (rule_at branching 1 ∷ [])
narrow = record {
  positions = 1 ∷ [];
  ascend = (tt, tt);
  are_kept = λ n. (narrow_to n, λ k. narrow_from n k.through.position k);
  are_rules = refl;
}

wide_from : (n : ℕ) → n < 2 → Has (0 ∷ 1 ∷ []) n
wide_from zero h = inl refl
wide_from (suc zero) h = inr (inl refl)
wide_from (suc (suc n)) h = absurd (omega (arith, h))

wide_to : (n : ℕ) → Has (0 ∷ 1 ∷ []) n → IsKept ◌+◌ branching 3 n
wide_to zero h = kept_to sum_laws branching insides outsides costs 3 2 0 refl (omega arith) (omega arith)
wide_to (suc zero) h = kept_to sum_laws branching insides outsides costs 3 2 1 refl (omega arith) (omega arith)
wide_to (suc (suc n)) h = elim h [ inl e ↦ absurd (omega (arith, e)) | inr k ↦ elim k [ inl e ↦ absurd (omega (arith, e)) | inr e ↦ absurd e ] ]

-- a beam of 3 keeps both
pub wide : ArePruned ◌+◌ branching 3 branching
wide = record {
  positions = 0 ∷ 1 ∷ [];
  ascend = ((omega arith, tt), (tt, tt));
  are_kept = λ n. (wide_to n, λ k. wide_from n k.through.position);
  are_rules = refl;
}
