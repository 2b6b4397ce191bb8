-- What the rules that are kept make of runs.
use Rattle.std.specs.Prelude.{◌≡◌, ℕ, ◌<◌, ◌≤◌, List, [], ◌∷◌, length, Bool, Option, None, Some, refl}
use Rattle.std.proofs.Common.{arith, ap, sym, ◌∙◌, subst, inl, inr, get_or, le_trans}
use Rattle.std.proofs.lemmas.List.{get_or-map, length-map}
use Rattle.tib_tree.specs.Trees.{Tree, Trees, none, tree, only, join, relabel}
use Rattle.tib_grammar.specs.Sides.{holes_of, fill}
use Rattle.tib_grammar.specs.Run.{rule_at, no_rule, AreRuns, yields, cost, IsCost}
use Rattle.tib_grammar.specs.Forms.{AreNormal}
use Rattle.tib_grammar.specs.Series.{IsSeries}
use Rattle.tib_grammar.proofs.Best.{best, best-is_least}
use Rattle.tib_grammar.specs.declared.Rule.{Rule}
use Rattle.tib_grammar.proofs.Members.{has_at, at_has}
use Rattle.tib_cost.specs.Semiring.{ProductLaws, most}
use Rattle.tib_cost.specs.Least.{IsNoGreater}
use Rattle.tib_cost.proofs.Least.{at_least_right, grows_both}
use Rattle.tib_inside.specs.Useful.{product_of}
use Rattle.tib_prune.proofs.Insides.{known_runs, known_below}
use Rattle.tib_inside.proofs.Chosen.{distinct_at, ascending_distinct}
use Rattle.tib_prune.specs.Contexts.{plug, cost_around, Stands}
use Rattle.tib_prune.specs.Outside.{IsContextCost, IsOutside, IsThrough}
use Rattle.tib_prune.specs.Pruned.{IsWithinBeam, IsKept, ArePruned, AreCosts, StandsInCheapRun}
use Rattle.tib_prune.proofs.Contexts.{plugged, plugged_cost, stands_plugged, cut_at, zero_right}

module _ {levelled weighted : Bool} {product : ℕ → ℕ → ℕ} (laws : ProductLaws levelled weighted product) (rules : List (Rule ℕ)) (beam : ℕ) where
  closer : (c d : ℕ) → c ≤ d → IsWithinBeam product rules beam d → IsWithinBeam product rules beam c
  closer c d h w = record { best = w.best; is_best = w.is_best; close = le_trans h w.close }

  module _ (insides outsides : ℕ → Option ℕ) (costs : AreCosts product rules insides outsides) where
    -- a state to which a context run costs little enough has an outside cost
    pub has_outside : (q n : ℕ) → IsContextCost product rules q n → n ≤ most → (c : ℕ) × IsOutside product rules q (Some c)
    has_outside q n r b = go (outsides q) (costs.are_outsides q)
      where
        go : (v : Option ℕ) → IsOutside product rules q v → (c : ℕ) × IsOutside product rules q (Some c)
        go (Some c) o = (c, o)
        go None o = absurd (o.lower n r b)

    -- each rule of a cheap run is kept
    pub all_kept :
        (runs : Trees ℕ) (n : ℕ) → AreRuns rules (0 ∷ []) runs → cost product rules runs ≤ most → IsWithinBeam product rules beam (cost product rules runs) → Stands n runs →
        IsKept product rules beam n
    all_kept runs n a m w s =
        let c = cut_at rules runs (0 ∷ []) n a s in
        let weight : ℕ = (rule_at rules n).cost in
        let e : ℕ = cost_around product rules c.context in
        let x : ℕ = cost product rules c.inner in
        let whole : cost product rules runs ≡ product e (product weight x) =
        ap (cost product rules) (sym c.whole)
        ∙ plugged_cost laws rules c.context (record { label = n; kids = c.inner })
        ∙ ap (product e) (zero_right laws (product weight x))
        in
        let le1 : e ≤ product e (product weight x) = laws.at_least e (product weight x) in
        let le2 : product weight x ≤ product e (product weight x) = at_least_right laws e (product weight x) in
        let le3 : x ≤ product weight x = at_least_right laws weight x in
        let outer : IsContextCost product rules (rule_at rules n).left e = record { context = c.context; are_runs = c.around; costs = refl } in
        let o = has_outside (rule_at rules n).left e outer (omega (arith, whole, m, le1)) in
        let low : o.0 ≤ e = o.1.lower e outer (omega (arith, whole, m, le1)) in
        let k = known_below laws rules insides costs.are_insides c.inner (holes_of (rule_at rules n).right) c.are_inner (omega (arith, whole, m, le2, le3)) in
        let through : product o.0 (product weight (product_of product k.values)) ≤ product e (product weight x) =
        grows_both laws o.0 (product weight (product_of product k.values)) e (product weight x) low (laws.grows weight (product_of product k.values) x k.small)
        in
        record {
          cost = product o.0 (product weight (product_of product k.values));
          through = record {
            position = c.position;
            outside = o.0;
            is_outside = o.1;
            insides = k.values;
            are_insides = k.are;
            is_product = refl {a = product o.0 (product weight (product_of product k.values))};
            within = omega (arith, through, whole, m);
          };
          within_beam = closer (product o.0 (product weight (product_of product k.values))) (cost product rules runs) (omega (arith, through, whole)) w;
        }

    -- a run from the start in which a rule occurs, at the through cost of the rule
    pub record RunsThrough (n c : ℕ) : Type 0 where
      pub runs : Trees ℕ
      pub are_runs : AreRuns rules (0 ∷ []) runs
      pub stands : Stands n runs
      pub costs_are : cost product rules runs ≡ c

    -- a rule with a through cost occurs in a run that costs it
    pub through_run : (n c : ℕ) → IsThrough product rules n c → RunsThrough n c
    through_run n c t =
        let inner = known_runs laws rules insides costs.are_insides (holes_of (rule_at rules n).right) t.insides t.are_insides in
        let outer = t.is_outside.attained.0 in
        let whole : Tree ℕ = record { label = n; kids = inner.runs } in
        record {
          runs = plug outer.context whole;
          are_runs = plugged rules outer.context (rule_at rules n).left (0 ∷ []) whole outer.are_runs (t.position, refl, inner.are_runs, tt);
          stands = stands_plugged outer.context n inner.runs;
          costs_are = plugged_cost laws rules outer.context whole
              ∙ ap (product (cost_around product rules outer.context)) (zero_right laws (product (rule_at rules n).cost (cost product rules inner.runs)))
              ∙ ap (λ z. product z (product (rule_at rules n).cost (cost product rules inner.runs))) outer.costs
              ∙ ap (λ z. product t.outside (product (rule_at rules n).cost z)) inner.costs
              ∙ t.is_product;
        }

  module _ (new : List (Rule ℕ)) (pruned : ArePruned product rules beam new) where
    abbrev old_position : ℕ → ℕ
    old_position j = get_or pruned.positions j 0

    -- there is a new rule for each position
    pub as_many : length new ≡ length pruned.positions
    as_many = ap length pruned.are_rules ∙ length-map pruned.positions (rule_at rules)

    -- each new rule is the old one at its position
    pub same_rule : (j : ℕ) → j < length new → rule_at new j ≡ rule_at rules (old_position j)
    same_rule j h =
        ap (λ rs. rule_at rs j) pruned.are_rules ∙ get_or-map (rule_at rules) pruned.positions j 0 no_rule (omega (arith, h, as_many))

    -- and that one is kept
    pub was_kept : (j : ℕ) → j < length new → IsKept product rules beam (old_position j)
    was_kept j h = (pruned.are_kept (old_position j)).0 (has_at pruned.positions j 0 (omega (arith, h, as_many)))

    -- new runs are old ones
    pub old_runs : (runs : Trees ℕ) (qs : List ℕ) → AreRuns new qs runs → AreRuns rules qs (relabel old_position runs)
    old_runs none [] a = tt
    old_runs none (q ∷ qs) a = absurd a
    old_runs (tree j inner rest) [] a = absurd a
    old_runs (tree j inner rest) (q ∷ qs) a = (
      (was_kept j a.0).through.position,
      ap (λ (r : Rule ℕ). r.left) (sym (same_rule j a.0)) ∙ a.1,
      old_runs inner (holes_of (rule_at rules (old_position j)).right) (subst (λ (r : Rule ℕ). AreRuns new (holes_of r.right) inner) (same_rule j a.0) a.2),
      old_runs rest qs a.3,
    )

    -- they yield the same
    pub old_yields : (runs : Trees ℕ) (qs : List ℕ) → AreRuns new qs runs → yields rules (relabel old_position runs) ≡ yields new runs
    old_yields none qs a = refl
    old_yields (tree j inner rest) [] a = absurd a
    old_yields (tree j inner rest) (q ∷ qs) a =
        ap (λ (r : Rule ℕ). join (fill (only r.right) (yields rules (relabel old_position inner))) (yields rules (relabel old_position rest))) (sym (same_rule j a.0))
        ∙ ap (λ ts. join (fill (only (rule_at new j).right) ts) (yields rules (relabel old_position rest))) (old_yields inner (holes_of (rule_at new j).right) a.2)
        ∙ ap (join (fill (only (rule_at new j).right) (yields new inner))) (old_yields rest qs a.3)

    -- and cost the same
    pub old_cost : (runs : Trees ℕ) (qs : List ℕ) → AreRuns new qs runs → cost product rules (relabel old_position runs) ≡ cost product new runs
    old_cost none qs a = refl
    old_cost (tree j inner rest) [] a = absurd a
    old_cost (tree j inner rest) (q ∷ qs) a =
        ap (λ (r : Rule ℕ). product (product r.cost (cost product rules (relabel old_position inner))) (cost product rules (relabel old_position rest))) (sym (same_rule j a.0))
        ∙ ap (λ c. product (product (rule_at new j).cost c) (cost product rules (relabel old_position rest))) (old_cost inner (holes_of (rule_at new j).right) a.2)
        ∙ ap (product (product (rule_at new j).cost (cost product new inner))) (old_cost rest qs a.3)

    -- so each cost by the new rules is one by the old rules
    pub to_old : (qs : List ℕ) (ts : Trees ℕ) (c : ℕ) → IsCost product new qs ts c → IsCost product rules qs ts c
    to_old qs ts c h = record {
      runs = relabel old_position h.runs;
      are_runs = old_runs h.runs qs h.are_runs;
      yielded = old_yields h.runs qs h.are_runs ∙ h.yielded;
      costs = old_cost h.runs qs h.are_runs ∙ h.costs;
    }

    -- old runs whose rules are kept are new ones
    pub record AreNew (qs : List ℕ) (runs : Trees ℕ) : Type 0 where
      pub others : Trees ℕ
      pub are_runs : AreRuns new qs others
      pub same : relabel old_position others ≡ runs

    -- the new runs of old ones
    pub to_new : (runs : Trees ℕ) (qs : List ℕ) → AreRuns rules qs runs → ((n : ℕ) → Stands n runs → IsKept product rules beam n) → AreNew qs runs
    to_new none [] a k = record { others = none; are_runs = tt; same = refl }
    to_new none (q ∷ qs) a k = absurd a
    to_new (tree n inner rest) [] a k = absurd a
    to_new (tree n inner rest) (q ∷ qs) a k =
        let j = at_has pruned.positions n 0 ((pruned.are_kept n).1 (k n (inl refl))) in
        let j_below : j.0 < length new = omega (arith, as_many, j.1) in
        let rule : rule_at new j.0 ≡ rule_at rules n = same_rule j.0 j_below ∙ ap (rule_at rules) j.2 in
        let b = to_new inner (holes_of (rule_at rules n).right) a.2 (λ m s. k m (inr (inl s))) in
        let c = to_new rest qs a.3 (λ m s. k m (inr (inr s))) in
        record {
          others = tree j.0 b.others c.others;
          are_runs = (
            j_below,
            ap (λ (r : Rule ℕ). r.left) rule ∙ a.1,
            subst (λ (r : Rule ℕ). AreRuns new (holes_of r.right) b.others) (sym rule) b.are_runs,
            c.are_runs,
          );
          same = ap (λ m. tree m (relabel old_position b.others) (relabel old_position c.others)) j.2
              ∙ ap (λ ts. tree n ts (relabel old_position c.others)) b.same
              ∙ ap (tree n inner) c.same;
        }

    -- a rule that occurs in runs under its old position is in them under the new one
    still_stands : (j : ℕ) → j < length new → (others : Trees ℕ) (qs : List ℕ) → AreRuns new qs others → Stands (old_position j) (relabel old_position others) → Stands j others
    still_stands j h none qs a s = absurd s
    still_stands j h (tree i inner rest) [] a s = absurd a
    still_stands j h (tree i inner rest) (q ∷ qs) a s = elim s [
      | inl e ↦ inl (distinct_at pruned.positions i j 0 (ascending_distinct pruned.positions pruned.ascend) (omega (arith, as_many, a.0)) (omega (arith, as_many, h)) e)
      | inr o ↦ elim o [
        | inl k ↦ inr (inl (still_stands j h inner (holes_of (rule_at new i).right) a.2 k))
        | inr k ↦ inr (inr (still_stands j h rest qs a.3 k))
      ]
    ]

    -- no tree costs less by the new rules
    pub not_cheaper : (t : Tree ℕ) (v w : Option ℕ) → IsSeries product rules t v → IsSeries product new t w → IsNoGreater v w
    not_cheaper t v None h k = tt
    not_cheaper t v (Some c) h k = h.lower c (to_old (0 ∷ []) (only t) c k.attained.0) k.attained.1

    -- where each right side is one label over states, a tree that has a cost had one before
    pub had_cost : AreNormal rules → (t : Tree ℕ) (c : ℕ) → IsSeries product new t (Some c) → (b : ℕ) × IsSeries product rules t (Some b) × (b ≤ c)
    had_cost normal t c h = go (best product rules (only t) (0 ∷ [])) (best-is_least laws rules normal (only t) (0 ∷ []))
      where
        go : (v : Option ℕ) → IsSeries product rules t v → (b : ℕ) × IsSeries product rules t (Some b) × (b ≤ c)
        go (Some b) k = (b, k, not_cheaper t (Some b) (Some c) k h)
        go None k = absurd (not_cheaper t None (Some c) k h)

    module _ (insides outsides : ℕ → Option ℕ) (costs : AreCosts product rules insides outsides) where
      -- a cheap tree keeps its cost
      pub keeps_cost : (t : Tree ℕ) (c : ℕ) → IsSeries product rules t (Some c) → IsWithinBeam product rules beam c → IsSeries product new t (Some c)
      keeps_cost t c h w =
          let r = h.attained.0 in
          let n = to_new r.runs (0 ∷ []) r.are_runs (λ m s. all_kept insides outsides costs r.runs m r.are_runs (omega (arith, r.costs, h.attained.1)) (closer (cost product rules r.runs) c (omega (arith, r.costs)) w) s) in
          record {
            attained = (
              record {
                runs = n.others;
                are_runs = n.are_runs;
                yielded = sym (old_yields n.others (0 ∷ []) n.are_runs) ∙ ap (yields rules) n.same ∙ r.yielded;
                costs = sym (old_cost n.others (0 ∷ []) n.are_runs) ∙ ap (cost product rules) n.same ∙ r.costs;
              },
              h.attained.1,
            );
            lower = λ m k b. h.lower m (to_old (0 ∷ []) (only t) m k) b;
          }

      -- each new rule occurs in a cheap run
      pub stands_cheap : (n : ℕ) → n < length new → StandsInCheapRun product rules beam new n
      stands_cheap n h =
          let kept = was_kept n h in
          let r = through_run insides outsides costs (old_position n) kept.cost kept.through in
          let within : IsWithinBeam product rules beam (cost product rules r.runs) = closer (cost product rules r.runs) kept.cost (omega (arith, r.costs_are)) kept.within_beam in
          let k = to_new r.runs (0 ∷ []) r.are_runs (λ m s. all_kept insides outsides costs r.runs m r.are_runs (omega (arith, r.costs_are, kept.through.within)) within s) in
          record {
            runs = k.others;
            are_runs = k.are_runs;
            stands = still_stands n h k.others (0 ∷ []) k.are_runs (subst (Stands (old_position n)) (sym k.same) r.stands);
            within_beam = closer (cost product new k.others) (cost product rules r.runs) (omega (arith, sym (old_cost k.others (0 ∷ []) k.are_runs) ∙ ap (cost product rules) k.same)) within;
          }
