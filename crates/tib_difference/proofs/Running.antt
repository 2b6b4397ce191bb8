-- Runs of a reached set are those of the first grammar, each to the set of what it yields.
use Rattle.std.specs.Prelude.{◌≡◌, ℕ, List, [], ◌∷◌, length, Bool, refl}
use Rattle.std.proofs.Common.{ap, sym, ◌∙◌, subst}
use Rattle.tib_tree.specs.Trees.{Trees, none, tree}
use Rattle.tib_grammar.specs.Sides.{label, holes, over}
use Rattle.tib_grammar.specs.Run.{rule_at, IsCost}
use Rattle.tib_grammar.specs.Forms.{AreNormal}
use Rattle.tib_grammar.specs.Range.{AllBelow}
use Rattle.tib_grammar.specs.declared.Rule.{Rule}
use Rattle.tib_grammar.proofs.Sides.{one_label}
use Rattle.tib_grammar.proofs.NormalRuns.{none_to, IsLeast-no_states, no_states}
use Rattle.tib_grammar.proofs.Best.{no_trees}
use Rattle.tib_grammar.proofs.Opening.{open_cost, close_cost}
use Rattle.tib_cost.specs.Semiring.{ProductLaws}
use Rattle.tib_determinize.proofs.Found.{label-relabel}
use Rattle.tib_difference.specs.Subsets.{SubsetOf, IsSubset}
use Rattle.tib_difference.specs.Difference.{KeyOf, states_of, subsets_of, key_at, keys_at, IsEdgeOver}
use Rattle.tib_difference.specs.Series.{IsReachedGrammar}
use Rattle.tib_difference.specs.OneEdge.{subset_is_one}
use Rattle.tib_difference.proofs.TreeSets.{set_over, is_set, sets_of}
use Rattle.tib_difference.proofs.KeyRules.{IsKeyRule, Stands, key_rule_at, rules_normal, has_rule}

module _
    {levelled weighted : Bool} {product : ℕ → ℕ → ℕ} (laws : ProductLaws levelled weighted product)
    (one two : List (Rule ℕ)) (one_normal : AreNormal one) (order : List KeyOf) (new : List (Rule ℕ))
    (found : IsReachedGrammar one two order new) where
  -- runs of the first grammar from the states of the keys, whose sets are those of what is yielded
  pub record IsProjected (ks : List ℕ) (ts : Trees ℕ) (c : ℕ) : Type 0 where
    pub costs : IsCost product one (states_of (keys_at order ks)) ts c
    pub sets : subsets_of (keys_at order ks) ≡ sets_of two ts

  -- runs of the reached set are such
  pub project : (ts : Trees ℕ) (ks : List ℕ) (c : ℕ) → IsCost product new ks ts c → IsProjected ks ts c
  project none [] c h =
      record { costs = subst (IsCost product one [] none) (sym (none_to laws new c h)) (IsLeast-no_states laws one).attained.0; sets = refl }
  project none (k ∷ ks) c h = absurd (no_trees laws new (rules_normal one two order new found) k ks c h)
  project (tree f kids rest) [] c h = absurd (no_states new f kids rest c h)
  project (tree f kids rest) (k ∷ ks) c h =
      let p = open_cost laws new (rules_normal one two order new found) k ks f kids rest c h in
      let r : IsKeyRule one two order new p.rule = key_rule_at one two order new found p.rule p.below in
      let root : r.root ≡ f = one_label r.root f (rule_at new p.rule).right.label r.is_root p.root in
      let ps : List ℕ = holes (rule_at new p.rule).right.kids in
      let inner : IsProjected ps kids p.inner = project kids ps p.inner p.kids_cost in
      let outer : IsProjected ks rest p.outer = project rest ks p.outer p.rest_cost in
      let by_sets : IsSubset two r.root (sets_of two kids) (key_at order (rule_at new p.rule).left).1 =
      subst (λ (vs : List SubsetOf). IsSubset two r.root vs (key_at order (rule_at new p.rule).left).1) inner.sets r.subset
      in
      let by_root : IsSubset two f (sets_of two kids) (key_at order (rule_at new p.rule).left).1 =
      subst (λ g. IsSubset two g (sets_of two kids) (key_at order (rule_at new p.rule).left).1) root by_sets
      in
      let at_key : IsSubset two f (sets_of two kids) (key_at order k).1 = subst (λ i. IsSubset two f (sets_of two kids) (key_at order i).1) p.left by_root in
      let first : (key_at order k).1 ≡ set_over two f (sets_of two kids) =
      subset_is_one two f (sets_of two kids) (key_at order k).1 (set_over two f (sets_of two kids)) at_key (is_set two f (sets_of two kids))
      in
      record {
        costs = close_cost laws one one_normal (key_at order k).0 (states_of (keys_at order ks)) f kids rest c (record {
          rule = r.rule;
          below = r.below;
          left = sym r.left ∙ ap (λ i. (key_at order i).0) p.left;
          root = r.first_root ∙ ap label root;
          inner = p.inner;
          outer = p.outer;
          kids_cost = subst (λ qs. IsCost product one qs kids p.inner) (sym r.states) inner.costs;
          rest_cost = outer.costs;
          costs = ap (λ w. product (product w p.inner) p.outer) (sym r.cost) ∙ p.costs;
        });
        sets = ap (λ v. v ∷ subsets_of (keys_at order ks)) first ∙ ap (λ vs. set_over two f (sets_of two kids) ∷ vs) outer.sets;
      }

  -- positions of the order with these states and the sets of what is yielded, from which the
  -- reached set has runs at the same cost
  pub record IsCovered (qs : List ℕ) (ts : Trees ℕ) (c : ℕ) : Type 0 where
    pub positions : List ℕ
    pub below : AllBelow (length order) positions
    pub states : states_of (keys_at order positions) ≡ qs
    pub sets : subsets_of (keys_at order positions) ≡ sets_of two ts
    pub costs : IsCost product new positions ts c

  -- each run of the first grammar has such positions
  pub cover : (ts : Trees ℕ) (qs : List ℕ) (c : ℕ) → IsCost product one qs ts c → IsCovered qs ts c
  cover none [] c h = record {
    positions = [];
    below = tt;
    states = refl;
    sets = refl;
    costs = subst (IsCost product new [] none) (sym (none_to laws one c h)) (IsLeast-no_states laws new).attained.0;
  }
  cover none (q ∷ qs) c h = absurd (no_trees laws one one_normal q qs c h)
  cover (tree f kids rest) [] c h = absurd (no_states one f kids rest c h)
  cover (tree f kids rest) (q ∷ qs) c h =
      let p = open_cost laws one one_normal q qs f kids rest c h in
      let inner : IsCovered (holes (rule_at one p.rule).right.kids) kids p.inner = cover kids (holes (rule_at one p.rule).right.kids) p.inner p.kids_cost in
      let outer : IsCovered qs rest p.outer = cover rest qs p.outer p.rest_cost in
      let e : Rule KeyOf = record { left = ((rule_at one p.rule).left, set_over two f (sets_of two kids)); right = over f (keys_at order inner.positions); cost = (rule_at one p.rule).cost } in
      let edge : IsEdgeOver one two p.rule (keys_at order inner.positions) e = record {
        below = p.below;
        root = f;
        is_root = p.root;
        states = sym inner.states;
        left = refl;
        subset = subst (λ (vs : List SubsetOf). IsSubset two f vs (set_over two f (sets_of two kids))) (sym inner.sets) (is_set two f (sets_of two kids));
        right = refl;
        cost = refl;
      }
      in
      let j = has_rule one two order new found p.rule inner.positions e inner.below edge in
      let s : Stands order new inner.positions e j.0 = j.1 in
      let left : key_at order (rule_at new j.0).left ≡ ((rule_at one p.rule).left, set_over two f (sets_of two kids)) = ap (λ d. d.left) s.is in
      record {
        positions = (rule_at new j.0).left ∷ outer.positions;
        below = ((found.in_range j.0 s.below).0, outer.below);
        states = ap (λ (k : KeyOf). k.0 ∷ states_of (keys_at order outer.positions)) left
            ∙ ap (λ x. x ∷ states_of (keys_at order outer.positions)) p.left
            ∙ ap (λ xs. q ∷ xs) outer.states;
        sets = ap (λ (k : KeyOf). k.1 ∷ subsets_of (keys_at order outer.positions)) left ∙ ap (λ vs. set_over two f (sets_of two kids) ∷ vs) outer.sets;
        costs = close_cost laws new (rules_normal one two order new found) (rule_at new j.0).left outer.positions f kids rest c (record {
          rule = j.0;
          below = s.below;
          left = refl;
          root = label-relabel (key_at order) (rule_at new j.0).right.label f (ap (λ d. d.right.label) s.is);
          inner = p.inner;
          outer = p.outer;
          kids_cost = subst (λ ps. IsCost product new ps kids p.inner) (sym s.positions) inner.costs;
          rest_cost = outer.costs;
          costs = ap (λ w. product (product w p.inner) p.outer) (ap (λ d. d.cost) s.is) ∙ p.costs;
        });
      }
