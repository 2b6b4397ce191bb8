-- The runs of the wanted rules from their start are those of marked positions.
use Rattle.std.specs.Prelude.{◌≡◌, ◌⊎◌, ℕ, ◌+◌, ◌*◌, ◌<◌, ◌≤◌, max, List, [], ◌∷◌, ◌++◌, length, map, filter, Bool, true, false, Some, refl}
use Rattle.std.proofs.Common.{arith, ap, sym, ◌∙◌, subst, inl, inr, get_or}
use Rattle.tib_lex.specs.Lists.{Has, Along}
use Rattle.tib_lex.proofs.Lists.{has_mapped, mapped_has}
use Rattle.tib_lex.proofs.Members.{has_at, at_has, has_left, has_right, has_either}
use Rattle.tib_tree.specs.Trees.{Tree, Trees, none, tree, only, sizes, size, most_nodes}
use Rattle.tib_grammar.specs.Sides.{label, holes}
use Rattle.tib_grammar.specs.Run.{rule_at, no_rule, IsCost}
use Rattle.tib_grammar.specs.Series.{IsSeriesAt}
use Rattle.tib_grammar.specs.Forms.{IsNormalSide, AreNormal}
use Rattle.tib_grammar.specs.declared.Rule.{Rule}
use Rattle.tib_grammar.proofs.NormalRuns.{IsLeast-no_states}
use Rattle.tib_grammar.proofs.Opening.{open_cost, close_cost}
use Rattle.tib_cost.specs.Semiring.{boolean_laws, sum_laws, most}
use Rattle.tib_weigh.proofs.Filters.{filtered_has, has_filtered}
use Rattle.tib_ranked_trees.specs.Best.{HasLarge}
use Rattle.tib_ranked_trees.specs.Levels.{states_of}
use Rattle.tib_compare.specs.Beside.{moved}
use Rattle.tib_compare.specs.Wanted.{ArePriced, is_marked, node_cost, wanted}
use Rattle.tib_compare.proofs.Mirrored.{IsMirrored, Mirrors, carried}
use Rattle.tib_compare.proofs.Raising.{IsRaised, along_lowered, moved_normal, moved_states, normal_from, moved_forth, moved_back, root_back}
use Rattle.tib_compare.proofs.Bounds.{by_nodes}

-- where each node costs as much, no tree that has a cost is too large
pub none_large : (labels : List (List ℕ)) (rules : List (Rule ℕ)) → AreNormal rules → ArePriced rules → (k q : ℕ) → HasLarge ◌+◌ labels rules k q → ⊥
none_large labels rules normal priced k q h =
    let e : h.tree.1 ≡ node_cost * sizes (only h.tree.0) = by_nodes rules normal node_cost priced (only h.tree.0) (q ∷ []) h.tree.1 h.next.member.attained.0 in
    omega (arith, e, h.next.member.attained.1, h.large)

module _ (marks : List Bool) (rules : List (Rule ℕ)) (normal : AreNormal rules) where
  abbrev of_positions : List (Rule ℕ)
  of_positions = map (λ (r : Rule ℕ). moved (1 + r.left) 1 node_cost r) rules

  abbrev of_start : List (Rule ℕ)
  of_start = map (λ r. moved 0 1 node_cost r) (filter (is_marked marks) rules)

  side_normal : (r : Rule ℕ) → Has rules r → IsNormalSide r.right
  side_normal r h = let at = at_has rules r no_rule h in subst (λ (s : Rule ℕ). IsNormalSide s.right) at.2 (normal at.0 at.1)

  wanted_is : (s : Rule ℕ) → Has (wanted marks rules) s → IsNormalSide s.right × (s.cost ≡ node_cost)
  wanted_is s h = elim (has_either of_positions of_start s h) [
    | inl k ↦
        let m = has_mapped (λ (r : Rule ℕ). moved (1 + r.left) 1 node_cost r) rules s k in
        (subst (λ (x : Rule ℕ). IsNormalSide x.right) m.2 (moved_normal (1 + m.0.left) 1 node_cost m.0), sym (ap (λ (x : Rule ℕ). x.cost) m.2))
    | inr k ↦
        let m = has_mapped (λ (r : Rule ℕ). moved 0 1 node_cost r) (filter (is_marked marks) rules) s k in
        (subst (λ (x : Rule ℕ). IsNormalSide x.right) m.2 (moved_normal 0 1 node_cost m.0), sym (ap (λ (x : Rule ℕ). x.cost) m.2))
  ]

  pub wanted_normal : AreNormal (wanted marks rules)
  wanted_normal = normal_from (wanted marks rules) (λ r h. (wanted_is r h).0)

  pub wanted_priced : ArePriced (wanted marks rules)
  wanted_priced n lt = (wanted_is (rule_at (wanted marks rules) n) (has_at (wanted marks rules) n no_rule lt)).1

  pub wanted_cost : (q : ℕ) (t : Tree ℕ) (c : ℕ) → IsCost ◌+◌ (wanted marks rules) (q ∷ []) (only t) c → c ≡ node_cost * size t
  wanted_cost q t c h =
      let e : c ≡ node_cost * sizes (only t) =
      by_nodes (wanted marks rules) wanted_normal node_cost wanted_priced (only t) (q ∷ []) c h
      in
      omega (arith, e)

  to_wanted : Mirrors rules (wanted marks rules) (IsRaised 1)
  to_wanted r h p e =
      subst (IsMirrored (wanted marks rules) (IsRaised 1) r) (sym e)
      (moved_forth (wanted marks rules) r (side_normal r h) (1 + r.left) 1 node_cost
      (has_left of_positions of_start (moved (1 + r.left) 1 node_cost r) (mapped_has (λ (x : Rule ℕ). moved (1 + x.left) 1 node_cost x) rules r h)))

  from_wanted : Mirrors (wanted marks rules) rules (λ p q. p ≡ 1 + q)
  from_wanted s h q e = elim (has_either of_positions of_start s h) [
    | inl k ↦
        let m = has_mapped (λ (r : Rule ℕ). moved (1 + r.left) 1 node_cost r) rules s k in
        let at : 1 + m.0.left ≡ s.left = ap (λ (x : Rule ℕ). x.left) m.2 in
        let same : m.0.left ≡ q = omega (arith, at, e) in
        subst (IsMirrored rules (λ p q. p ≡ 1 + q) s) same
        (moved_back rules (λ p q. p ≡ 1 + q) m.0 s (side_normal m.0 m.1) m.1 (1 + m.0.left) 1 node_cost m.2 (along_lowered 1 (states_of m.0)))
    | inr k ↦
        let m = has_mapped (λ (r : Rule ℕ). moved 0 1 node_cost r) (filter (is_marked marks) rules) s k in
        let at : 0 ≡ s.left = ap (λ (x : Rule ℕ). x.left) m.2 in
        absurd (omega (arith, at, e))
  ]

  -- a run to a marked position is a run from the start
  pub marked_run :
      (t : Tree ℕ) (k d : ℕ) → IsCost max rules (k ∷ []) (only t) d → get_or marks k false ≡ true → (c : ℕ) × IsCost ◌+◌ (wanted marks rules) (0 ∷ []) (only t) c
  marked_run t k d h e =
      let o = open_cost boolean_laws rules normal k [] t.label t.kids none d h in
      let r : Rule ℕ = rule_at rules o.rule in
      let member : Has rules r = has_at rules o.rule no_rule o.below in
      let kept : Has (filter (is_marked marks) rules) r = has_filtered (is_marked marks) rules r member (ap (λ (q : ℕ). get_or marks q false) o.left ∙ e) in
      let m : IsMirrored (wanted marks rules) (IsRaised 1) r 0 =
      moved_forth (wanted marks rules) r (side_normal r member) 0 1 node_cost
      (has_right of_positions of_start (moved 0 1 node_cost r) (mapped_has (λ (x : Rule ℕ). moved 0 1 node_cost x) (filter (is_marked marks) rules) r kept))
      in
      let at = at_has (wanted marks rules) m.rule no_rule m.stands in
      let along : Along (IsRaised 1) (states_of r) (states_of (rule_at (wanted marks rules) at.0)) =
      subst (λ (s : Rule ℕ). Along (IsRaised 1) (states_of r) (states_of s)) (sym at.2) m.states
      in
      let inner =
      carried boolean_laws sum_laws rules (wanted marks rules) normal wanted_normal (IsRaised 1) to_wanted t.kids (states_of r) (states_of (rule_at (wanted marks rules) at.0)) along o.inner o.kids_cost
      in
      let c : ℕ = ((rule_at (wanted marks rules) at.0).cost + inner.0) + 0 in (
        c,
        close_cost sum_laws (wanted marks rules) wanted_normal 0 [] t.label t.kids none c (record {
          rule = at.0;
          below = at.1;
          left = ap (λ (s : Rule ℕ). s.left) at.2 ∙ m.left;
          root = ap (λ (s : Rule ℕ). s.right.label) at.2 ∙ m.root ∙ o.root;
          inner = inner.0;
          outer = 0;
          kids_cost = inner.1;
          rest_cost = (IsLeast-no_states sum_laws (wanted marks rules)).attained.0;
          costs = refl {a = c};
        }),
      )

  -- and a run from the start is one to a marked position
  pub run_marked :
      (t : Tree ℕ) (c : ℕ) → IsCost ◌+◌ (wanted marks rules) (0 ∷ []) (only t) c → (k : ℕ) × (d : ℕ) × IsCost max rules (k ∷ []) (only t) d × (get_or marks k false ≡ true)
  run_marked t c h =
      let o = open_cost sum_laws (wanted marks rules) wanted_normal 0 [] t.label t.kids none c h in
      let s : Rule ℕ = rule_at (wanted marks rules) o.rule in
      elim (has_either of_positions of_start s (has_at (wanted marks rules) o.rule no_rule o.below)) [
        | inl k ↦
            let m = has_mapped (λ (r : Rule ℕ). moved (1 + r.left) 1 node_cost r) rules s k in
            let at : 1 + m.0.left ≡ s.left = ap (λ (x : Rule ℕ). x.left) m.2 in
            absurd (omega (arith, at, o.left))
        | inr k ↦
            let m = has_mapped (λ (r : Rule ℕ). moved 0 1 node_cost r) (filter (is_marked marks) rules) s k in
            let f = filtered_has (is_marked marks) rules m.0 m.1 in
            let b : IsMirrored rules (λ p q. p ≡ 1 + q) s m.0.left =
            moved_back rules (λ p q. p ≡ 1 + q) m.0 s (side_normal m.0 f.0) f.0 0 1 node_cost m.2 (along_lowered 1 (states_of m.0))
            in
            let place = at_has rules b.rule no_rule b.stands in
            let along : Along (λ p q. p ≡ 1 + q) (states_of s) (states_of (rule_at rules place.0)) =
            subst (λ (x : Rule ℕ). Along (λ p q. p ≡ 1 + q) (states_of s) (states_of x)) (sym place.2) b.states
            in
            let inner =
            carried sum_laws boolean_laws (wanted marks rules) rules wanted_normal normal (λ p q. p ≡ 1 + q) from_wanted t.kids (states_of s) (states_of (rule_at rules place.0)) along o.inner o.kids_cost
            in
            let d : ℕ = max (max (rule_at rules place.0).cost inner.0) 0 in (
              m.0.left,
              d,
              close_cost boolean_laws rules normal m.0.left [] t.label t.kids none d (record {
                rule = place.0;
                below = place.1;
                left = ap (λ (x : Rule ℕ). x.left) place.2 ∙ b.left;
                root = ap (λ (x : Rule ℕ). x.right.label) place.2 ∙ b.root ∙ o.root;
                inner = inner.0;
                outer = 0;
                kids_cost = inner.1;
                rest_cost = (IsLeast-no_states boolean_laws rules).attained.0;
                costs = refl {a = d};
              }),
              f.1,
            )
      ]

  -- a tree of at most 10,000 nodes with a run from the start has a cost there
  pub small_costs :
      (t : Tree ℕ) (c : ℕ) → IsCost ◌+◌ (wanted marks rules) (0 ∷ []) (only t) c → size t ≤ most_nodes → IsSeriesAt ◌+◌ (wanted marks rules) 0 t (Some c)
  small_costs t c h low =
      let e : c ≡ node_cost * size t = wanted_cost 0 t c h in
      record {
        attained = (h, omega (arith, e, low));
        lower = λ n k b. let d : n ≡ node_cost * size t = wanted_cost 0 t n k in omega (arith, e, d);
      }
