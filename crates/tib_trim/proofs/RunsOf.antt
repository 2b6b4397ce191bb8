-- The runs of the grammar of runs.
use Rattle.std.specs.Prelude.{◌≡◌, ℕ, ◌+◌, ◌<◌, List, [], ◌∷◌, length, refl}
use Rattle.std.proofs.Common.{zero, suc, arith, ap, sym, ◌∙◌, subst}
use Rattle.tib_tree.specs.Trees.{Trees, none, tree, join, only, count}
use Rattle.tib_grammar.specs.Sides.{holes, holes_of, fill, leaves, over}
use Rattle.tib_grammar.specs.Run.{rule_at, AreRuns, yields, cost}
use Rattle.tib_grammar.specs.Forms.{IsNormalSide, AreNormal}
use Rattle.tib_grammar.specs.declared.Rule.{Rule}
use Rattle.tib_grammar.proofs.Sides.{fill-AreHoles, first_all, holes-leaves, AreHoles-leaves, holes_of-over}
use Rattle.tib_trim.specs.RunsOf.{run_rule, runs_from, runs_of}

-- there is one rule for each
pub as_many : (k : ℕ) (rules : List (Rule ℕ)) → length (runs_from k rules) ≡ length rules
as_many k [] = refl
as_many k (r ∷ rules) = ap suc (as_many (suc k) rules)

-- each under its number
pub run_rule_at : (k n m : ℕ) (rules : List (Rule ℕ)) → n < length rules → m ≡ k + n → rule_at (runs_from k rules) n ≡ run_rule m (rule_at rules n)
run_rule_at k n m [] h e = absurd (omega arith)
run_rule_at k zero m (r ∷ rules) h e = let same : k ≡ m = omega (arith, e) in ap (λ i. run_rule i r) same
run_rule_at k (suc n) m (r ∷ rules) h e = run_rule_at (suc k) n m rules (omega arith) (omega (arith, e))

module _ (rules : List (Rule ℕ)) where
  own : (n : ℕ) → n < length rules → rule_at (runs_of rules) n ≡ run_rule n (rule_at rules n)
  own n h = run_rule_at 0 n n rules h (omega arith)

  -- with the states of the rule
  own_states : (n : ℕ) → n < length rules → holes_of (rule_at (runs_of rules) n).right ≡ holes_of (rule_at rules n).right
  own_states n h = ap (λ (r : Rule ℕ). holes_of r.right) (own n h) ∙ holes_of-over n (holes_of (rule_at rules n).right)

  -- in normal form
  pub normal : AreNormal (runs_of rules)
  normal n h =
      let below : n < length rules = omega (arith, h, as_many 0 rules) in
      subst (λ (r : Rule ℕ). IsNormalSide r.right) (sym (own n below)) (record { is_label = tt; are_holes = AreHoles-leaves ℕ (holes_of (rule_at rules n).right) })

  -- a run of the grammar is one there
  pub runs_to : (qs : List ℕ) (runs : Trees ℕ) → AreRuns rules qs runs → AreRuns (runs_of rules) qs runs
  runs_to [] none a = tt
  runs_to [] (tree n runs rest) a = absurd a
  runs_to (q ∷ qs) none a = absurd a
  runs_to (q ∷ qs) (tree n runs rest) a = (
    omega (arith, a.0, as_many 0 rules),
    ap (λ (r : Rule ℕ). r.left) (own n a.0) ∙ a.1,
    subst (λ ps. AreRuns (runs_of rules) ps runs) (sym (own_states n a.0)) (runs_to (holes_of (rule_at rules n).right) runs a.2),
    runs_to qs rest a.3,
  )

  -- and the other way round
  pub runs_from_them : (qs : List ℕ) (runs : Trees ℕ) → AreRuns (runs_of rules) qs runs → AreRuns rules qs runs
  runs_from_them [] none a = tt
  runs_from_them [] (tree n runs rest) a = absurd a
  runs_from_them (q ∷ qs) none a = absurd a
  runs_from_them (q ∷ qs) (tree n runs rest) a =
      let below : n < length rules = omega (arith, a.0, as_many 0 rules) in (
        below,
        sym (ap (λ (r : Rule ℕ). r.left) (own n below)) ∙ a.1,
        runs_from_them (holes_of (rule_at rules n).right) runs (subst (λ ps. AreRuns (runs_of rules) ps runs) (own_states n below) a.2),
        runs_from_them qs rest a.3,
      )

  -- there are as many runs as states
  as_many_runs : (qs : List ℕ) (runs : Trees ℕ) → AreRuns rules qs runs → count runs ≡ length qs
  as_many_runs [] none a = refl
  as_many_runs [] (tree n runs rest) a = absurd a
  as_many_runs (q ∷ qs) none a = absurd a
  as_many_runs (q ∷ qs) (tree n runs rest) a = ap suc (as_many_runs qs rest a.3)

  -- a label over states with the trees in their place
  filled : (n : ℕ) (qs : List ℕ) (ts : Trees ℕ) → count ts ≡ length qs → fill (only (over n qs)) ts ≡ tree n ts none
  filled n qs ts e =
      let long : length (holes {A = ℕ} (leaves qs)) ≡ count ts = ap length (holes-leaves ℕ qs) ∙ sym e in
      ap (λ us. tree n us none)
      (ap (fill (leaves qs)) (first_all ts (length (holes {A = ℕ} (leaves qs))) long) ∙ fill-AreHoles (leaves qs) ts (AreHoles-leaves ℕ qs) (sym long))

  -- each run yields itself
  pub yields_them : (qs : List ℕ) (runs : Trees ℕ) → AreRuns rules qs runs → yields (runs_of rules) runs ≡ runs
  yields_them [] none a = refl
  yields_them [] (tree n runs rest) a = absurd a
  yields_them (q ∷ qs) none a = absurd a
  yields_them (q ∷ qs) (tree n runs rest) a =
      let states : List ℕ = holes_of (rule_at rules n).right in
      ap (λ (r : Rule ℕ). join (fill (only r.right) (yields (runs_of rules) runs)) (yields (runs_of rules) rest)) (own n a.0)
      ∙ ap (λ ts. join (fill (only (over n states)) ts) (yields (runs_of rules) rest)) (yields_them states runs a.2)
      ∙ ap (λ ts. join ts (yields (runs_of rules) rest)) (filled n states runs (as_many_runs states runs a.2))
      ∙ ap (tree n runs) (yields_them qs rest a.3)

-- past the last rule is a rule without a cost
past : (k : ℕ) (rules : List (Rule ℕ)) (n : ℕ) → (rule_at (runs_from k rules) n).cost ≡ (rule_at rules n).cost
past k [] n = refl
past k (r ∷ rules) zero = refl
past k (r ∷ rules) (suc n) = past (suc k) rules n

-- and it costs the same
pub costs_the_same : (product : ℕ → ℕ → ℕ) (rules : List (Rule ℕ)) (runs : Trees ℕ) → cost product (runs_of rules) runs ≡ cost product rules runs
costs_the_same product rules none = refl
costs_the_same product rules (tree n runs rest) =
    ap (λ w. product (product w (cost product (runs_of rules) runs)) (cost product (runs_of rules) rest)) (past 0 rules n)
    ∙ ap (λ c. product (product (rule_at rules n).cost c) (cost product (runs_of rules) rest)) (costs_the_same product rules runs)
    ∙ ap (product (product (rule_at rules n).cost (cost product rules runs))) (costs_the_same product rules rest)
