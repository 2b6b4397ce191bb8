-- Runs plugged into contexts, contexts extended, and runs cut at a rule.
use Rattle.std.specs.Prelude.{◌≡◌, ℕ, ◌<◌, List, [], ◌∷◌, length, Bool, refl}
use Rattle.std.proofs.Common.{ap, sym, ◌∙◌, subst, inl, inr}
use Rattle.tib_tree.specs.Trees.{Tree, Trees, none, tree, only}
use Rattle.tib_grammar.specs.Sides.{holes_of}
use Rattle.tib_grammar.specs.Run.{rule_at, AreRuns, cost}
use Rattle.tib_grammar.specs.declared.Rule.{Rule}
use Rattle.tib_cost.specs.Semiring.{ProductLaws}
use Rattle.tib_prune.specs.Contexts.{Context, gap, below, later, plug, extend, AreRunsAround, cost_around, Stands, IsCut}

module _ (rules : List (Rule ℕ)) where
  -- a run plugged into a context run makes a run
  pub plugged : (c : Context ℕ) (q : ℕ) (qs : List ℕ) (t : Tree ℕ) → AreRunsAround rules q qs c → AreRuns rules (q ∷ []) (only t) → AreRuns rules qs (plug c t)
  plugged c q [] t a r = absurd a
  plugged (gap rest) q (p ∷ qs) t a r = (r.0, r.1 ∙ sym a.0, r.2, a.1)
  plugged (below n c rest) q (p ∷ qs) t a r = (a.0, a.1, plugged c q (holes_of (rule_at rules n).right) t a.2 r, a.3)
  plugged (later n runs c) q (p ∷ qs) t a r = (a.0, a.1, a.2, plugged c q qs t a.3 r)

  -- a context run with a rule and a context of its right side in place of what is left out
  pub extended :
      (c : Context ℕ) (n q : ℕ) (qs : List ℕ) (inner : Context ℕ) → n < length rules → AreRunsAround rules (rule_at rules n).left qs c →
      AreRunsAround rules q (holes_of (rule_at rules n).right) inner → AreRunsAround rules q qs (extend c n inner)
  extended c n q [] inner h a b = absurd a
  extended (gap rest) n q (p ∷ qs) inner h a b = (h, sym a.0, b, a.1)
  extended (below m c rest) n q (p ∷ qs) inner h a b = (a.0, a.1, extended c n q (holes_of (rule_at rules m).right) inner h a.2 b, a.3)
  extended (later m runs c) n q (p ∷ qs) inner h a b = (a.0, a.1, a.2, extended c n q qs inner h a.3 b)

  -- runs are cut at a rule that is in them
  pub cut_at : (runs : Trees ℕ) (qs : List ℕ) (n : ℕ) → AreRuns rules qs runs → Stands n runs → IsCut rules qs runs n
  cut_at none qs n a s = absurd s
  cut_at (tree m runs rest) [] n a s = absurd a
  cut_at (tree m runs rest) (q ∷ qs) n a s = elim s [
    | inl e ↦ record {
      context = gap rest;
      inner = runs;
      around = (sym a.1 ∙ ap (λ k. (rule_at rules k).left) e, a.3);
      position = subst (λ k. k < length rules) e a.0;
      are_inner = subst (λ k. AreRuns rules (holes_of (rule_at rules k).right) runs) e a.2;
      whole = ap (λ k. tree k runs rest) (sym e);
    }
    | inr o ↦ elim o [
      | inl k ↦
          let c = cut_at runs (holes_of (rule_at rules m).right) n a.2 k in
          record {
            context = below m c.context rest;
            inner = c.inner;
            around = (a.0, a.1, c.around, a.3);
            position = c.position;
            are_inner = c.are_inner;
            whole = ap (λ k. tree m k rest) c.whole;
          }
      | inr k ↦
          let c = cut_at rest qs n a.3 k in
          record {
            context = later m runs c.context;
            inner = c.inner;
            around = (a.0, a.1, a.2, c.around);
            position = c.position;
            are_inner = c.are_inner;
            whole = ap (λ k. tree m runs k) c.whole;
          }
    ]
  ]

-- what is plugged in is in the whole
pub stands_plugged : (c : Context ℕ) (n : ℕ) (inner : Trees ℕ) → Stands n (plug c (record { label = n; kids = inner }))
stands_plugged (gap rest) n inner = inl refl
stands_plugged (below m c rest) n inner = inr (inl (stands_plugged c n inner))
stands_plugged (later m runs c) n inner = inr (inr (stands_plugged c n inner))

module _ {levelled weighted : Bool} {product : ℕ → ℕ → ℕ} (laws : ProductLaws levelled weighted product) where
  -- 0 changes no product
  pub zero_right : (a : ℕ) → product a 0 ≡ a
  zero_right a = laws.commutes a 0 ∙ laws.neutral a

  -- a factor x taken out of the second and of the first place
  pub out_of_second : (a e x : ℕ) → product a (product e x) ≡ product (product a e) x
  out_of_second a e x = sym (laws.regroups a e x)

  out_of_first : (a e x : ℕ) → product (product a x) e ≡ product (product a e) x
  out_of_first a e x = laws.regroups a x e ∙ ap (product a) (laws.commutes x e) ∙ sym (laws.regroups a e x)

  -- a factor is taken out of the second place below
  pub out_below : (w e x r : ℕ) → product (product w (product e x)) r ≡ product (product (product w e) r) x
  out_below w e x r = ap (λ z. product z r) (out_of_second w e x) ∙ out_of_first (product w e) r x

  module _ (rules : List (Rule ℕ)) where
    -- and it costs the product of both
    pub plugged_cost : (c : Context ℕ) (t : Tree ℕ) → cost product rules (plug c t) ≡ product (cost_around product rules c) (cost product rules (only t))
    plugged_cost (gap rest) t =
        laws.commutes (product (rule_at rules t.label).cost (cost product rules t.kids)) (cost product rules rest)
        ∙ ap (product (cost product rules rest)) (sym (zero_right (product (rule_at rules t.label).cost (cost product rules t.kids))))
    plugged_cost (below n c rest) t =
        ap (λ z. product (product (rule_at rules n).cost z) (cost product rules rest)) (plugged_cost c t)
        ∙ out_below (rule_at rules n).cost (cost_around product rules c) (cost product rules (only t)) (cost product rules rest)
    plugged_cost (later n runs c) t =
        ap (product (product (rule_at rules n).cost (cost product rules runs))) (plugged_cost c t)
        ∙ out_of_second (product (rule_at rules n).cost (cost product rules runs)) (cost_around product rules c) (cost product rules (only t))

    -- and it costs the product of all three
    pub extended_cost :
        (c : Context ℕ) (n : ℕ) (inner : Context ℕ) →
        cost_around product rules (extend c n inner) ≡ product (cost_around product rules c) (product (rule_at rules n).cost (cost_around product rules inner))
    extended_cost (gap rest) n inner = laws.commutes (product (rule_at rules n).cost (cost_around product rules inner)) (cost product rules rest)
    extended_cost (below m c rest) n inner =
        ap (λ z. product (product (rule_at rules m).cost z) (cost product rules rest)) (extended_cost c n inner)
        ∙ out_below (rule_at rules m).cost (cost_around product rules c) (product (rule_at rules n).cost (cost_around product rules inner)) (cost product rules rest)
    extended_cost (later m runs c) n inner =
        ap (product (product (rule_at rules m).cost (cost product rules runs))) (extended_cost c n inner)
        ∙ out_of_second (product (rule_at rules m).cost (cost product rules runs)) (cost_around product rules c) (product (rule_at rules n).cost (cost_around product rules inner))
