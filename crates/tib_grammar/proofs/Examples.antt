-- The definitions computed on small grammars, first on 0 -> 7(0, 0) # 1 and 0 -> 8 # 2.
use Rattle.std.specs.Prelude.{◌≡◌, ℕ, ◌+◌, ◌<◌, length, max, List, [], ◌∷◌, refl, Some, None}
use Rattle.std.proofs.Common.{zero, suc, arith, ap, sym, inl, inr}
use Rattle.tib_lex.specs.Lists.{Has}
use Rattle.tib_cost.specs.Semiring.{sum_laws}
use Rattle.tib_tree.specs.Trees.{Tree, Trees, none, tree, only}
use Rattle.tib_grammar.specs.Sides.{Symbol, label, hole, Lone, holes_of, fill, over, leaves}
use Rattle.tib_grammar.specs.Run.{rule_at, AreRuns, yields, cost}
use Rattle.tib_grammar.specs.Series.{IsSeries}
use Rattle.tib_grammar.specs.Forms.{AreNormal, IsShaped, IsDeterministic}
use Rattle.tib_grammar.specs.declared.Rule.{Rule}
use Rattle.tib_grammar.proofs.Best.{best-is_least}

abbrev rules : List (Rule ℕ)
rules = record { left = 0; right = over 7 (0 ∷ 0 ∷ []); cost = 1 } ∷ record { left = 0; right = over 8 []; cost = 2 } ∷ []

-- the states of a side are in preorder: those of 5(3, 6(4), 1) are 3, 4 and 1
states : holes_of {A = ℕ} {P = ℕ} (record { label = label 5; kids = tree (hole 3) none (tree (label 6) (leaves (4 ∷ [])) (leaves (1 ∷ []))) }) ≡ 3 ∷ 4 ∷ 1 ∷ []
states = refl

-- 5(3, 6(4)) with the trees 8 and 9 in place of its states is 5(8, 6(9))
filled :
    fill {A = ℕ} {P = ℕ} (tree (label 5) (tree (hole 3) none (tree (label 6) (leaves (4 ∷ [])) none)) none) (tree 8 none (tree 9 none none))
    ≡ tree 5 (tree 8 none (tree 6 (tree 9 none none) none)) none
filled = refl

-- the run that takes the first rule and then the second twice
abbrev run : Trees ℕ
run = tree 0 (tree 1 none (tree 1 none none)) none

is_run : AreRuns rules (0 ∷ []) run
is_run = (omega arith, refl, (omega arith, refl, tt, (omega arith, refl, tt, tt)), tt)

-- it yields 7(8, 8)
abbrev yield : Tree ℕ
yield = record { label = 7; kids = tree 8 none (tree 8 none none) }

yielded : yields rules run ≡ only yield
yielded = refl

-- and costs 1 + 2 + 2 in min-plus, and 2 at most in bottleneck
sum_cost : cost ◌+◌ rules run ≡ 5
sum_cost = refl

greatest_cost : cost max rules run ≡ 2
greatest_cost = refl

normal : AreNormal rules
normal zero h = record { is_label = tt; are_holes = tt }
normal (suc zero) h = record { is_label = tt; are_holes = tt }
normal (suc (suc n)) h = absurd (omega arith)

-- so the series at this tree is 5
series : IsSeries ◌+◌ rules yield (Some 5)
series = best-is_least sum_laws rules normal (only yield) (0 ∷ [])

-- and none at the label 9
no_series : IsSeries ◌+◌ rules (record { label = 9; kids = none }) None
no_series = best-is_least sum_laws rules normal (tree 9 none none) (0 ∷ [])

-- 0 -> 1, 1 -> 7(1) # 1 and 1 -> 8 # 2 are in deterministic form
abbrev chained : List (Rule ℕ)
chained =
    record { left = 0; right = Lone 1; cost = 0 }
    ∷ record { left = 1; right = over 7 (1 ∷ []); cost = 1 }
    ∷ record { left = 1; right = over 8 []; cost = 2 }
    ∷ []

no_start : (n : ℕ) → n < length chained → Has (holes_of (rule_at chained n).right) 0 → ⊥
no_start zero h has = elim has [ inl e ↦ absurd (omega arith) | inr a ↦ absurd a ]
no_start (suc zero) h has = elim has [ inl e ↦ absurd (omega arith) | inr a ↦ absurd a ]
no_start (suc (suc zero)) h has = absurd has
no_start (suc (suc (suc n))) h has = absurd (omega arith)

shaped : (n : ℕ) → n < length chained → IsShaped chained (rule_at chained n)
shaped zero h = inr (record { left = refl; lone = record { state = 1; is = refl }; apart = λ s. no_start s.rule s.below s.stands })
shaped (suc zero) h = inl (record { is_label = tt; are_holes = tt })
shaped (suc (suc zero)) h = inl (record { is_label = tt; are_holes = tt })
shaped (suc (suc (suc n))) h = absurd (omega arith)

chain_apart : (f : ℕ) → ◌≡◌ {A = Symbol ℕ ℕ} (hole 1) (label f) → ⊥
chain_apart f e = absurd (cc)

labels_apart : (f g : ℕ) → f < g → ◌≡◌ {A = Symbol ℕ ℕ} (label f) (label g) → ⊥
labels_apart f g h e = let same : f ≡ g = cc e in absurd (omega arith)

sides_apart : (m n : ℕ) → m < length chained → n < length chained → (rule_at chained m).right ≡ (rule_at chained n).right → m ≡ n
sides_apart zero zero h k e = refl
sides_apart zero (suc zero) h k e = absurd (chain_apart 7 (ap (λ s. s.label) e))
sides_apart zero (suc (suc zero)) h k e = absurd (chain_apart 8 (ap (λ s. s.label) e))
sides_apart (suc zero) zero h k e = absurd (chain_apart 7 (sym (ap (λ s. s.label) e)))
sides_apart (suc zero) (suc zero) h k e = refl
sides_apart (suc zero) (suc (suc zero)) h k e = absurd (labels_apart 7 8 (omega arith) (ap (λ s. s.label) e))
sides_apart (suc (suc zero)) zero h k e = absurd (chain_apart 8 (sym (ap (λ s. s.label) e)))
sides_apart (suc (suc zero)) (suc zero) h k e = absurd (labels_apart 7 8 (omega arith) (sym (ap (λ s. s.label) e)))
sides_apart (suc (suc zero)) (suc (suc zero)) h k e = refl
sides_apart (suc (suc (suc m))) n h k e = absurd (omega arith)
sides_apart m (suc (suc (suc n))) h k e = absurd (omega arith)

deterministic : IsDeterministic chained
deterministic = record { shaped = shaped; apart = sides_apart }
