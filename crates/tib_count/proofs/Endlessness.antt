-- Where states lead to one another, and each has a run, there are longer and longer runs.
use Rattle.std.specs.Prelude.{◌≡◌, ℕ, ◌+◌, ◌≤◌, List, [], ◌∷◌, refl}
use Rattle.std.proofs.Common.{zero, suc, arith, inl, inr, subst, sym}
use Rattle.tib_lex.specs.Lists.{Has, total}
use Rattle.tib_tree.specs.Trees.{Trees, none, tree, join, sizes}
use Rattle.tib_grammar.specs.declared.Rule.{Rule}
use Rattle.tib_grammar.specs.Sides.{holes_of}
use Rattle.tib_grammar.specs.Run.{AreRuns, rule_at}
use Rattle.tib_count.specs.Counts.{IsEndless}
use Rattle.tib_count.specs.Counted.{IsRun, IsRunFrom, HaveRuns}
use Rattle.tib_count.specs.Edges.{Leads}
use Rattle.tib_count.specs.Order.{IsCircle}
use Rattle.tib_count.proofs.RunLists.{runs_joined}

pub sizes_join : (x y : Trees ℕ) → sizes (join x y) ≡ sizes x + sizes y
sizes_join none y = omega arith
sizes_join (tree n runs rest) y = omega (arith, sizes_join rest y)

-- one run from each of some states
pub some_runs : (rules : List (Rule ℕ)) (qs : List ℕ) → ((q : ℕ) → Has qs q → (run : Trees ℕ) × IsRunFrom rules q run) → (runs : Trees ℕ) × AreRuns rules qs runs
some_runs rules [] each = (none, tt)
some_runs rules (q ∷ qs) each =
    let first = each q (inl refl) in
    let others = some_runs rules qs (λ p h. each p (inr h)) in
    (join first.0 others.0, runs_joined rules q qs first.0 others.0 first.1 others.1)

-- a run from q of at least d nodes
abbrev pub LongRun : List (Rule ℕ) → ℕ → ℕ → Type 0
LongRun rules q d = (run : Trees ℕ) × IsRunFrom rules q run × (d ≤ sizes run)

-- one run from each of some states, and a long one from one of them
pub long_runs : (rules : List (Rule ℕ)) (qs : List ℕ) (p d : ℕ) → ((q : ℕ) → Has qs q → (run : Trees ℕ) × IsRunFrom rules q run) → Has qs p → LongRun rules p d →
    (runs : Trees ℕ) × AreRuns rules qs runs × (d ≤ sizes runs)
long_runs rules [] p d each h long = absurd h
long_runs rules (q ∷ qs) p d each h long = elim h [
  | inl e ↦
      let others = some_runs rules qs (λ v k. each v (inr k)) in
      (join long.0 others.0, runs_joined rules q qs long.0 others.0 (subst (λ z. IsRunFrom rules z long.0) (sym e) long.1) others.1, omega (arith, sizes_join long.0 others.0, long.2))
  | inr k ↦
      let first = each q (inl refl) in
      let others = long_runs rules qs p d (λ v m. each v (inr m)) k long in
      (join first.0 others.0, runs_joined rules q qs first.0 others.0 first.1 others.1, omega (arith, sizes_join first.0 others.0, others.2))
]

-- a run from each state that leads on, as long as wanted
pub long_run : (rules : List (Rule ℕ)) (circle : IsCircle (Leads rules)) → HaveRuns rules → (d q : ℕ) → Has circle.states q → LongRun rules q d
long_run rules circle have zero q h =
    let next = circle.leads q h in
    let rule : ℕ = next.1.rule in
    let runs = some_runs rules (holes_of (rule_at rules rule).right) (λ p k. have rule p next.1.early k) in
    (tree rule runs.0 none, (next.1.early, next.1.left, runs.1, tt), omega arith)
long_run rules circle have (suc d) q h =
    let next = circle.leads q h in
    let rule : ℕ = next.1.rule in
    let runs = long_runs rules (holes_of (rule_at rules rule).right) next.0 d (λ p k. have rule p next.1.early k) next.1.stands (long_run rules circle have d next.0 next.2) in
    (tree rule runs.0 none, (next.1.early, next.1.left, runs.1, tt), omega (arith, runs.2))

has_small : (xs : List (Trees ℕ)) (x : Trees ℕ) → Has xs x → sizes x ≤ total sizes xs
has_small [] x h = absurd h
has_small (y ∷ xs) x h = elim h [
  | inl e ↦ subst (λ z. sizes z ≤ total sizes (y ∷ xs)) e (omega arith)
  | inr k ↦ omega (arith, has_small xs x k)
]

pub endless : (rules : List (Rule ℕ)) → IsCircle (Leads rules) → HaveRuns rules → IsEndless (IsRun rules)
endless rules circle have xs all =
    let long = long_run rules circle have (suc (total sizes xs)) 0 circle.start in
    omega (arith, long.2, has_small xs long.0 ((all.are long.0).1 long.1))
