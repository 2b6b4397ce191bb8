-- Runs put together, and why the least cost that waits is an inside cost.
use Rattle.std.specs.Prelude.{◌≡◌, ℕ, ◌<◌, ◌≤◌, ◌⊎◌, List, [], ◌∷◌, length, Bool, Option, None, Some, Contains, refl}
use Rattle.std.proofs.Common.{arith, ap, sym, ◌∙◌, subst, inl, inr, le_refl}
use Rattle.tib_tree.specs.Trees.{Trees, none, tree}
use Rattle.tib_grammar.specs.Sides.{holes_of}
use Rattle.tib_grammar.specs.Range.{AreInRange}
use Rattle.tib_grammar.specs.Run.{rule_at, AreRuns, cost}
use Rattle.tib_grammar.specs.declared.Rule.{Rule}
use Rattle.tib_cost.specs.Semiring.{ProductLaws, most}
use Rattle.tib_cost.specs.Least.{times}
use Rattle.tib_cost.proofs.Least.{at_least_right, grows_both}
use Rattle.tib_cost.proofs.Times.{cut-some, cut-within}
use Rattle.tib_inside.specs.Inside.{IsRunCost, IsInside, total}
use Rattle.tib_normal.specs.Entries.{TakesLeast}
use Rattle.tib_inside.specs.Settling.{rule_total, HasOrWaits, AreSound}

-- a run begins with a rule of its state
pub run_below : (product : ℕ → ℕ → ℕ) (rules : List (Rule ℕ)) (count q c : ℕ) → AreInRange count rules → IsRunCost product rules (q ∷ []) c → q < count
run_below product rules count q c range r = by r.runs r.are_runs
  where
    by : (runs : Trees ℕ) → AreRuns rules (q ∷ []) runs → q < count
    by none a = absurd a
    by (tree n inner rest) a = subst (λ z. z < count) a.1 (range n a.0).0

module _ {levelled weighted : Bool} {product : ℕ → ℕ → ℕ} (laws : ProductLaws levelled weighted product) (rules : List (Rule ℕ)) where
  zero_right : (a : ℕ) → product a 0 ≡ a
  zero_right a = laws.commutes a 0 ∙ laws.neutral a

  -- runs from one more state
  pub more_runs : (q : ℕ) (qs : List ℕ) (a b : ℕ) → IsRunCost product rules (q ∷ []) a → IsRunCost product rules qs b → IsRunCost product rules (q ∷ qs) (product a b)
  more_runs q qs a b x y = by x.runs x.are_runs x.costs
    where
      by : (runs : Trees ℕ) → AreRuns rules (q ∷ []) runs → cost product rules runs ≡ a → IsRunCost product rules (q ∷ qs) (product a b)
      by none r e = absurd r
      by (tree n inner (tree m u v)) r e = absurd r.3
      by (tree n inner none) r e = record {
        runs = tree n inner y.runs;
        are_runs = (r.0, r.1, r.2, y.are_runs);
        costs = ap (λ z. product z (cost product rules y.runs)) (sym (zero_right (product (rule_at rules n).cost (cost product rules inner))) ∙ e) ∙ ap (product a) y.costs;
      }

  -- runs from the states in the right side of a rule make one with the rule
  pub rule_run : (n b : ℕ) → n < length rules → IsRunCost product rules (holes_of (rule_at rules n).right) b → IsRunCost product rules ((rule_at rules n).left ∷ []) (product (rule_at rules n).cost b)
  rule_run n b h y = record {
    runs = tree n y.runs none;
    are_runs = (h, refl, y.are_runs, tt);
    costs = zero_right (product (rule_at rules n).cost (cost product rules y.runs)) ∙ ap (product (rule_at rules n).cost) y.costs;
  }

  module _ (costs : ℕ → Option ℕ) (exact : (q d : ℕ) → costs q ≡ Some d → IsInside product rules q (Some d)) where
    -- a product of inside costs is the cost of runs
    pub total_runs : (qs : List ℕ) (d : ℕ) → total product costs qs ≡ Some d → IsRunCost product rules qs d
    total_runs [] d e = record { runs = none; are_runs = tt; costs = cc }
    total_runs (q ∷ qs) d e = go (costs q) (total product costs qs) refl (λ y k. total_runs qs y k) e
      where
        go : (v w : Option ℕ) → costs q ≡ v → ((y : ℕ) → w ≡ Some y → IsRunCost product rules qs y) → times product v w ≡ Some d → IsRunCost product rules (q ∷ qs) d
        go None w a b e = absurd (cc)
        go (Some x) None a b e = absurd (cc)
        go (Some x) (Some y) a b e =
            let s = cut-some (product x y) d e in
            subst (IsRunCost product rules (q ∷ qs)) s.0 (more_runs q qs x y (exact q x a).attained.0 (b y refl))

    pub rule_total_run : (n c : ℕ) → n < length rules → rule_total product costs (rule_at rules n) ≡ Some c → IsRunCost product rules ((rule_at rules n).left ∷ []) c × (c ≤ most)
    rule_total_run n c h e = go (total product costs (holes_of (rule_at rules n).right)) refl e
      where
        go : (w : Option ℕ) → total product costs (holes_of (rule_at rules n).right) ≡ w → times product (Some (rule_at rules n).cost) w ≡ Some c → IsRunCost product rules ((rule_at rules n).left ∷ []) c × (c ≤ most)
        go None k e = absurd (cc)
        go (Some d) k e =
            let s = cut-some (product (rule_at rules n).cost d) c e in
            (subst (IsRunCost product rules ((rule_at rules n).left ∷ [])) s.0 (rule_run n d h (total_runs (holes_of (rule_at rules n).right) d k)), omega (arith, s.0, s.1))

    module _
        (entries : List (ℕ × ℕ))
        (covered : (n c : ℕ) → n < length rules → rule_total product costs (rule_at rules n) ≡ Some c → HasOrWaits costs entries (rule_at rules n).left c) where
      -- the states have costs whose product is at most m, or an entry is
      abbrev Reaches : List ℕ → ℕ → Type 0
      Reaches qs m = ((d : ℕ) × (total product costs qs ≡ Some d) × (d ≤ m)) ⊎ ((e : ℕ × ℕ) × Contains entries e × (e.0 ≤ m))

      -- what runs cost is no less than the costs of their states, or than an entry
      cross : (runs : Trees ℕ) (qs : List ℕ) → AreRuns rules qs runs → cost product rules runs ≤ most → Reaches qs (cost product rules runs)
      cross none [] a m = inl (0, refl, le_refl 0)
      cross none (q ∷ qs) a m = absurd a
      cross (tree n inner rest) [] a m = absurd a
      cross (tree n inner rest) (q ∷ qs) a m =
          let w : ℕ = (rule_at rules n).cost in
          let x : ℕ = cost product rules inner in
          let y : ℕ = cost product rules rest in
          let le1 : x ≤ product w x = at_least_right laws w x in
          let le2 : product w x ≤ product (product w x) y = laws.at_least (product w x) y in
          let le3 : y ≤ product (product w x) y = at_least_right laws (product w x) y in
          elim (cross inner (holes_of (rule_at rules n).right) a.2 (omega arith)) [
            | inr s ↦ inr (s.0, s.1, omega (arith, s.2))
            | inl s ↦
                let low : product w s.0 ≤ product w x = laws.grows w s.0 x s.2 in
                let fits : product w s.0 ≤ most = omega arith in
                let whole : rule_total product costs (rule_at rules n) ≡ Some (product w s.0) = ap (times product (Some w)) s.1 ∙ cut-within (product w s.0) fits in
                elim (covered n (product w s.0) a.0 whole) [
                  | inr k ↦ inr ((k.cost, (rule_at rules n).left), k.held, omega (arith, k.small))
                  | inl k ↦
                      let run : IsRunCost product rules ((rule_at rules n).left ∷ []) (product w x) = rule_run n x a.0 (record { runs = inner; are_runs = a.2; costs = refl }) in
                      let least : k.0 ≤ product w x = (exact (rule_at rules n).left k.0 k.1).lower (product w x) run (omega arith) in
                      elim (cross rest qs a.3 (omega arith)) [
                        | inr t ↦ inr (t.0, t.1, omega (arith, t.2))
                        | inl t ↦
                            let most_of : product k.0 t.0 ≤ product (product w x) y = grows_both laws k.0 t.0 (product w x) y least t.2 in
                            let here : costs q ≡ Some k.0 = ap costs (sym a.1) ∙ k.1 in
                            let all : total product costs (q ∷ qs) ≡ Some (product k.0 t.0) =
                            ap (λ v. times product v (total product costs qs)) here ∙ ap (times product (Some k.0)) t.1 ∙ cut-within (product k.0 t.0) (omega arith)
                            in
                            inl (product k.0 t.0, all, most_of)
                      ]
                ]
          ]

      crossed : (q m : ℕ) → costs q ≡ None → IsRunCost product rules (q ∷ []) m → m ≤ most → (e : ℕ × ℕ) × Contains entries e × (e.0 ≤ m)
      crossed q m unknown r b = elim (cross r.runs (q ∷ []) r.are_runs (omega (arith, r.costs))) [
        | inr s ↦ (s.0, s.1, omega (arith, s.2, r.costs))
        | inl s ↦ let bad : None ≡ Some s.0 = sym (ap (λ v. times product v (Some 0)) unknown) ∙ s.1 in absurd (cc bad)
      ]

      -- the least entry is an inside cost
      pub popped : (e : ℕ × ℕ) (rest : List (ℕ × ℕ)) → AreSound product rules costs entries → TakesLeast entries e rest → costs e.1 ≡ None → IsInside product rules e.1 (Some e.0)
      popped e rest sound t unknown = record {
        attained = (sound.runs e t.held, sound.within e t.held);
        lower = λ m r b. let x = crossed e.1 m unknown r b in omega (arith, x.2, t.least x.0 x.1);
      }

      -- where nothing waits, each state has its cost
      pub ended : entries ≡ [] → (q : ℕ) → IsInside product rules q (costs q)
      ended empty q = go (costs q) refl
        where
          go : (v : Option ℕ) → costs q ≡ v → IsInside product rules q v
          go (Some d) k = exact q d k
          go None k = record {
            attained = tt;
            lower = λ m r b. let x = crossed q m k r b in let none_held : Contains [] x.0 = subst (λ es. Contains es x.0) empty x.1 in absurd (omega (arith, none_held.1));
          }
