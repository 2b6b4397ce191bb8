-- The least cost of what a right-hand side leaves out, from the inside costs of the states.
use Rattle.std.specs.Prelude.{◌≡◌, ℕ, ◌<◌, ◌≤◌, ◌⊎◌, List, [], ◌∷◌, length, Bool, refl, Option, None, Some}
use Rattle.std.proofs.Common.{zero, suc, arith, ap, sym, ◌∙◌, subst, inl, inr, get_or}
use Rattle.tib_tree.specs.Trees.{Trees, none, tree}
use Rattle.tib_grammar.specs.Run.{rule_at, AreRuns, cost}
use Rattle.tib_grammar.specs.Range.{AreInRange}
use Rattle.tib_grammar.specs.declared.Rule.{Rule}
use Rattle.tib_grammar.proofs.Sides.{holes_of-label}
use Rattle.tib_grammar.proofs.Best.{best_rule}
use Rattle.tib_cost.specs.Semiring.{ProductLaws}
use Rattle.tib_cost.specs.Least.{IsLeast, Products, times}
use Rattle.tib_cost.proofs.Least.{IsLeast-same, IsLeast-none, IsLeast-one, IsLeast-products}
use Rattle.tib_inside.specs.Inside.{IsRunCost, AreInsides, total}
use Rattle.tib_apply.specs.Forward.{BeginsWith, IsAskedCost, IsDeletedCost}
use Rattle.tib_match.proofs.Steps.{neutral_right}
use Rattle.tib_match.proofs.MatchCosts.{IsPlacedBelow, placed_is_least}

past : (costs : List (Option ℕ)) (q : ℕ) → length costs ≤ q → get_or costs q None ≡ None
past [] q h = refl
past (c ∷ cs) zero h = absurd (omega arith)
past (c ∷ cs) (suc q) h = past cs q (omega arith)

lt_cases : (a b : ℕ) → (a < b) ⊎ (b ≤ a)
lt_cases a b = grind arith

module _
    {levelled weighted : Bool} {product : ℕ → ℕ → ℕ} (laws : ProductLaws levelled weighted product)
    (grammar : List (Rule ℕ)) (costs : List (Option ℕ)) (range : AreInRange (length costs) grammar) (insides : AreInsides product grammar costs) where
  pub inside_is : (q : ℕ) → IsLeast (IsRunCost product grammar (q ∷ [])) (get_or costs q None)
  inside_is q = elim (lt_cases q (length costs)) [
    | inl h ↦ insides q h
    | inr h ↦ subst (IsLeast (IsRunCost product grammar (q ∷ []))) (sym (past costs q h)) (IsLeast-none (λ c r. no_run h r.runs r.are_runs))
  ]
    where
      no_run : length costs ≤ q → (runs : Trees ℕ) → AreRuns grammar (q ∷ []) runs → ⊥
      no_run h none a = a
      no_run h (tree n runs rest) a = omega (arith, h, (range n a.0).0, a.1)

  runs_split : (q : ℕ) (qs : List ℕ) (c : ℕ) → IsRunCost product grammar (q ∷ qs) c → Products product (IsRunCost product grammar (q ∷ [])) (IsRunCost product grammar qs) c
  runs_split q qs c h = by h.runs h.are_runs h.costs
    where
      by : (runs : Trees ℕ) → AreRuns grammar (q ∷ qs) runs → cost product grammar runs ≡ c → Products product (IsRunCost product grammar (q ∷ [])) (IsRunCost product grammar qs) c
      by none a e = absurd a
      by (tree n runs rest) a e = (
        product (rule_at grammar n).cost (cost product grammar runs),
        cost product grammar rest,
        record { runs = tree n runs none; are_runs = (a.0, a.1, a.2, tt); costs = neutral_right laws (product (rule_at grammar n).cost (cost product grammar runs)) },
        record { runs = rest; are_runs = a.3; costs = refl },
        e,
      )

  runs_join : (q : ℕ) (qs : List ℕ) (c : ℕ) → Products product (IsRunCost product grammar (q ∷ [])) (IsRunCost product grammar qs) c → IsRunCost product grammar (q ∷ qs) c
  runs_join q qs c p = by p.2.runs p.2.are_runs p.2.costs
    where
      by : (runs : Trees ℕ) → AreRuns grammar (q ∷ []) runs → cost product grammar runs ≡ p.0 → IsRunCost product grammar (q ∷ qs) c
      by none a e = absurd a
      by (tree n runs (tree m more still)) a e = absurd a.3
      by (tree n runs none) a e = record {
        runs = tree n runs p.3.runs;
        are_runs = (a.0, a.1, a.2, p.3.are_runs);
        costs = ap (λ x. product x (cost product grammar p.3.runs)) (sym (neutral_right laws (product (rule_at grammar n).cost (cost product grammar runs))) ∙ e) ∙ ap (product p.0) p.3.costs ∙ p.4;
      }

  total_is : (qs : List ℕ) → IsLeast (IsRunCost product grammar qs) (total product (λ q. get_or costs q None) qs)
  total_is [] = IsLeast-same (λ c e. record { runs = none; are_runs = tt; costs = sym e }) (λ c h. no_states c h.runs h.are_runs h.costs) (IsLeast-one 0)
    where
      no_states : (c : ℕ) (runs : Trees ℕ) → AreRuns grammar [] runs → cost product grammar runs ≡ c → c ≡ 0
      no_states c none a e = sym e
      no_states c (tree n runs rest) a e = absurd a
  total_is (q ∷ qs) = IsLeast-same (runs_join q qs) (runs_split q qs) (IsLeast-products laws (inside_is q) (total_is qs))

  abbrev pub asked_least : Option ℕ → ℕ → Option ℕ
  asked_least None q = get_or costs q None
  asked_least (Some f) q = best_rule product grammar (total product (λ q. get_or costs q None)) q f (length grammar)

  begins_to : (f q c : ℕ) → IsPlacedBelow product grammar (IsRunCost product grammar) q f (length grammar) c → BeginsWith product grammar f q c
  begins_to f q c p =
      let b = p.2.below in
      record {
        rule = p.0;
        below = p.1;
        left = p.2.left;
        root = p.2.root;
        inner = b.1;
        runs = subst (λ qs. IsRunCost product grammar qs b.1) (sym (holes_of-label (rule_at grammar p.0).right.label (rule_at grammar p.0).right.kids f p.2.root)) b.3;
        costs = ap (λ x. product x b.1) (sym b.2) ∙ b.4;
      }

  begins_from : (f q c : ℕ) → BeginsWith product grammar f q c → IsPlacedBelow product grammar (IsRunCost product grammar) q f (length grammar) c
  begins_from f q c b = (
    b.rule,
    b.below,
    record {
      left = b.left;
      root = b.root;
      below = (
        (rule_at grammar b.rule).cost,
        b.inner,
        refl,
        subst (λ qs. IsRunCost product grammar qs b.inner) (holes_of-label (rule_at grammar b.rule).right.label (rule_at grammar b.rule).right.kids f b.root) b.runs,
        b.costs,
      );
    },
  )

  pub asked_is : (l : Option ℕ) (q : ℕ) → IsLeast (IsAskedCost product grammar l q) (asked_least l q)
  asked_is None q = inside_is q
  asked_is (Some f) q =
      IsLeast-same (begins_to f q) (begins_from f q)
      (placed_is_least laws grammar (IsRunCost product grammar) (total product (λ q. get_or costs q None)) total_is q f (length grammar))

  abbrev pub deleted_least : List (Option ℕ × ℕ) → Option ℕ
  deleted_least [] = Some 0
  deleted_least (x ∷ xs) = times product (asked_least x.0 x.1) (deleted_least xs)

  pub deleted_is : (xs : List (Option ℕ × ℕ)) → IsLeast (IsDeletedCost product grammar xs) (deleted_least xs)
  deleted_is [] = IsLeast-one 0
  deleted_is (x ∷ xs) = IsLeast-products laws (asked_is x.0 x.1) (deleted_is xs)
