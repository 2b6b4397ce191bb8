-- What runs cost where all rules cost as much, or little.
use Rattle.std.specs.Prelude.{◌≡◌, ℕ, ◌+◌, ◌*◌, ◌<◌, ◌≤◌, max, List, [], ◌∷◌, length, Some}
use Rattle.std.proofs.Common.{suc, arith, ap, sym, ◌∙◌, subst}
use Rattle.tib_tree.specs.Trees.{Tree, Trees, none, tree, only, sizes}
use Rattle.tib_grammar.specs.Sides.{holes}
use Rattle.tib_grammar.specs.Run.{rule_at, IsCost, AreFree}
use Rattle.tib_grammar.specs.Series.{IsSeriesAt}
use Rattle.tib_grammar.specs.Forms.{AreNormal}
use Rattle.tib_grammar.specs.declared.Rule.{Rule}
use Rattle.tib_grammar.proofs.NormalRuns.{none_to, no_states}
use Rattle.tib_grammar.proofs.Best.{no_trees}
use Rattle.tib_grammar.proofs.Opening.{open_cost}
use Rattle.tib_cost.specs.Semiring.{boolean_laws, sum_laws, most}
use Rattle.tib_compare.specs.Compared.{HasCost}

module _ (rules : List (Rule ℕ)) (normal : AreNormal rules) where
  -- where no rule costs more than a number, no run does, by the greater cost
  pub at_most : (k : ℕ) → ((n : ℕ) → n < length rules → (rule_at rules n).cost ≤ k) → (ts : Trees ℕ) (qs : List ℕ) (c : ℕ) → IsCost max rules qs ts c → c ≤ k
  at_most k low none [] c h = let e : c ≡ 0 = none_to boolean_laws rules c h in omega arith
  at_most k low none (q ∷ qs) c h = absurd (no_trees boolean_laws rules normal q qs c h)
  at_most k low (tree f kids rest) [] c h = absurd (no_states rules f kids rest c h)
  at_most k low (tree f kids rest) (q ∷ qs) c h =
      let o = open_cost boolean_laws rules normal q qs f kids rest c h in
      omega (arith, low o.rule o.below, at_most k low kids (holes (rule_at rules o.rule).right.kids) o.inner o.kids_cost, at_most k low rest qs o.outer o.rest_cost, o.costs)

  -- where each rule costs as much, a run costs that for each node, by the sum
  pub by_nodes : (u : ℕ) → ((n : ℕ) → n < length rules → (rule_at rules n).cost ≡ u) → (ts : Trees ℕ) (qs : List ℕ) (c : ℕ) → IsCost ◌+◌ rules qs ts c → c ≡ u * sizes ts
  by_nodes u same none [] c h = let e : c ≡ 0 = none_to sum_laws rules c h in omega arith
  by_nodes u same none (q ∷ qs) c h = absurd (no_trees sum_laws rules normal q qs c h)
  by_nodes u same (tree f kids rest) [] c h = absurd (no_states rules f kids rest c h)
  by_nodes u same (tree f kids rest) (q ∷ qs) c h =
      let o = open_cost sum_laws rules normal q qs f kids rest c h in
      summed u (rule_at rules o.rule).cost o.inner o.outer c (sizes kids) (sizes rest) (same o.rule o.below)
      (by_nodes u same kids (holes (rule_at rules o.rule).right.kids) o.inner o.kids_cost) (by_nodes u same rest qs o.outer o.rest_cost) o.costs
    where
      summed : (u w i o c m n : ℕ) → w ≡ u → i ≡ u * m → o ≡ u * n → (w + i) + o ≡ c → c ≡ u * suc (m + n)
      summed u w i o c m n a b d e = omega arith

-- a run from a state that yields the tree, at some cost
abbrev pub HasRun : List (Rule ℕ) → ℕ → Tree ℕ → Type 0
HasRun rules q t = (c : ℕ) × IsCost max rules (q ∷ []) (only t) c

module _ (rules : List (Rule ℕ)) (normal : AreNormal rules) (free : AreFree rules) where
  pub run_free : (q : ℕ) (t : Tree ℕ) (c : ℕ) → IsCost max rules (q ∷ []) (only t) c → c ≡ 0
  run_free q t c h =
      let low : c ≤ 0 = at_most rules normal 0 (λ n lt. let e = free n lt in omega arith) (only t) (q ∷ []) c h in
      omega arith

  -- a run gives a cost, which is 0
  pub run_at : (q : ℕ) (t : Tree ℕ) → HasRun rules q t → IsSeriesAt max rules q t (Some 0)
  run_at q t h = record {
    attained = (subst (λ c. IsCost max rules (q ∷ []) (only t) c) (run_free q t h.0 h.1) h.1, omega arith);
    lower = λ n c b. omega arith;
  }

  pub run_costs : (t : Tree ℕ) → HasRun rules 0 t → HasCost rules t
  run_costs t h = (0, run_at 0 t h)

-- and a cost has a run
pub cost_runs : (rules : List (Rule ℕ)) (t : Tree ℕ) → HasCost rules t → HasRun rules 0 t
cost_runs rules t h = (h.0, h.1.attained.0)
