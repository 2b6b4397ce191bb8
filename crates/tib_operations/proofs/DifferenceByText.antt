-- The states of a grammar with sets of states of another, under other numbers of labels, and over
-- rules in another order.
use Rattle.std.specs.Prelude.{◌≡◌, ℕ, ◌+◌, ◌<◌, ◌≤◌, max, List, [], ◌∷◌, length, map, refl}
use Rattle.std.proofs.Common.{arith, ap, sym, ◌∙◌, subst}
use Rattle.std.proofs.lemmas.List.{length-map}
use Rattle.tib_lex.specs.Lists.{Distinct, total as edges_total}
use Rattle.tib_tree.specs.Trees.{relabel_tree}
use Rattle.tib_grammar.specs.Sides.{label, Side, holes, over}
use Rattle.tib_grammar.specs.GrammarOf.{GrammarOf}
use Rattle.tib_grammar.specs.Run.{rule_at}
use Rattle.tib_grammar.specs.declared.Rule.{Rule}
use Rattle.tib_grammar_file.specs.ByText.{AgreeByText}
use Rattle.tib_grammar_file.proofs.Relabelled.{symbol_with, rule_with, rules_with, at_with, holes_with}
use Rattle.tib_grammar_file.proofs.Renumbering.{Renumbers, renumbering}
use Rattle.tib_expand.specs.Keys.{key_parts}
use Rattle.tib_expand.specs.Reached.{IsReachedSet}
use Rattle.tib_canon.specs.TrimmedForms.{IsTrimmedForm}
use Rattle.tib_canon.proofs.EdgesByText.{key_with, edge_with, over_kept}
use Rattle.tib_canon.proofs.NormalByText.{label_found}
use Rattle.tib_canon.proofs.ReachedAlike.{AreProblemsAlike, reached_alike}
use Rattle.tib_canon.proofs.TrimmedByText.{grammar_with}
use Rattle.tib_difference.specs.Subsets.{SubsetOf, AreIn, LeadsTo, IsSubset}
use Rattle.tib_difference.specs.Difference.{KeyOf, subsets_of, keys_at, IsEdgeOver, difference, key_entries, edge_parts}
use Rattle.tib_difference.proofs.OrderFree.{order_is_free}
use Rattle.tib_operations.specs.Difference.{AreTrimmedWithSupport, differing}
use Rattle.tib_operations.specs.Made.{HasReachedFrom}
use Rattle.tib_operations.proofs.PairsByText.{differ, trimmed_given}
use Rattle.tib_operations.proofs.Tables.{sizes_kept}

-- an edge under the other numbers is that of an edge under the old ones
record HasOldEdge (f : ℕ → ℕ) (one two : List (Rule ℕ)) (rule : ℕ) (keys : List KeyOf) (e : Rule KeyOf) : Type 0 where
  old : Rule KeyOf
  is : e ≡ edge_with f old
  edge : IsEdgeOver one two rule keys old

module _ (f : ℕ → ℕ) (apart : (i j : ℕ) → f i ≡ f j → i ≡ j) (one two : List (Rule ℕ)) where
  kids_kept : (rules : List (Rule ℕ)) (n : ℕ) → n < length rules → holes (rule_at (rules_with f rules) n).right.kids ≡ holes (rule_at rules n).right.kids
  kids_kept rules n h = ap (λ (r : Rule ℕ). holes r.right.kids) (at_with f rules n h) ∙ holes_with f (rule_at rules n).right.kids

  -- the states that lead to a label

  leads_to : (g : ℕ) (vs : List SubsetOf) (q : ℕ) → LeadsTo two g vs q → LeadsTo (rules_with f two) (f g) vs q
  leads_to g vs q l =
      let same : rule_at (rules_with f two) l.rule ≡ rule_with f (rule_at two l.rule) = at_with f two l.rule l.below in
      record {
        rule = l.rule;
        below = omega (arith, l.below, length-map two (rule_with f));
        left = ap (λ (r : Rule ℕ). r.left) same ∙ l.left;
        root = ap (λ (r : Rule ℕ). r.right.label) same ∙ ap (symbol_with f) l.root;
        states = subst (λ (qs : List ℕ). AreIn qs vs) (sym (kids_kept two l.rule l.below)) l.states;
      }

  leads_from : (g : ℕ) (vs : List SubsetOf) (q : ℕ) → LeadsTo (rules_with f two) (f g) vs q → LeadsTo two g vs q
  leads_from g vs q l =
      let below : l.rule < length two = omega (arith, l.below, length-map two (rule_with f)) in
      let same : rule_at (rules_with f two) l.rule ≡ rule_with f (rule_at two l.rule) = at_with f two l.rule below in
      let h = label_found f (rule_at two l.rule).right.label (f g) (sym (ap (λ (r : Rule ℕ). r.right.label) same) ∙ l.root) in
      record {
        rule = l.rule;
        below = below;
        left = sym (ap (λ (r : Rule ℕ). r.left) same) ∙ l.left;
        root = h.1 ∙ ap (λ (n : ℕ). label n) (sym (apart g h.0 h.2));
        states = subst (λ (qs : List ℕ). AreIn qs vs) (kids_kept two l.rule below) l.states;
      }

  subset_to : (g : ℕ) (vs : List SubsetOf) (v : SubsetOf) → IsSubset two g vs v → IsSubset (rules_with f two) (f g) vs v
  subset_to g vs v s = record { ascends = s.ascends; states = λ q. (λ h. leads_to g vs q ((s.states q).0 h), λ l. (s.states q).1 (leads_from g vs q l)) }

  subset_from : (g : ℕ) (vs : List SubsetOf) (v : SubsetOf) → IsSubset (rules_with f two) (f g) vs v → IsSubset two g vs v
  subset_from g vs v s = record { ascends = s.ascends; states = λ q. (λ h. leads_from g vs q ((s.states q).0 h), λ l. (s.states q).1 (leads_to g vs q l)) }

  -- the edges

  edge_to : (rule : ℕ) (keys : List KeyOf) (e : Rule KeyOf) → IsEdgeOver one two rule keys e → IsEdgeOver (rules_with f one) (rules_with f two) rule keys (edge_with f e)
  edge_to rule keys e is =
      let same : rule_at (rules_with f one) rule ≡ rule_with f (rule_at one rule) = at_with f one rule is.below in
      record {
        below = omega (arith, is.below, length-map one (rule_with f));
        root = f is.root;
        is_root = ap (λ (r : Rule ℕ). r.right.label) same ∙ ap (symbol_with f) is.is_root;
        states = kids_kept one rule is.below ∙ is.states;
        left = is.left ∙ sym (ap (λ (r : Rule ℕ). r.left) same);
        subset = subset_to is.root (subsets_of keys) e.left.1 is.subset;
        right = ap (relabel_tree (key_with f)) is.right ∙ over_kept f is.root keys;
        cost = is.cost ∙ sym (ap (λ (r : Rule ℕ). r.cost) same);
      }

  edge_from : (rule : ℕ) (keys : List KeyOf) (e : Rule KeyOf) → IsEdgeOver (rules_with f one) (rules_with f two) rule keys e → HasOldEdge f one two rule keys e
  edge_from rule keys e is =
      let below : rule < length one = omega (arith, is.below, length-map one (rule_with f)) in
      let same : rule_at (rules_with f one) rule ≡ rule_with f (rule_at one rule) = at_with f one rule below in
      let g = label_found f (rule_at one rule).right.label is.root (sym (ap (λ (r : Rule ℕ). r.right.label) same) ∙ is.is_root) in
      let right : e.right ≡ relabel_tree (key_with f) (over g.0 keys) = is.right ∙ ap (λ (n : ℕ). over n keys) g.2 ∙ sym (over_kept f g.0 keys) in
      record {
        old = record { left = e.left; right = over g.0 keys; cost = e.cost };
        is = ap (λ (s : Side ℕ KeyOf). record { left = e.left; right = s; cost = e.cost }) right;
        edge = record {
          below = below;
          root = g.0;
          is_root = g.1;
          states = sym (kids_kept one rule below) ∙ is.states;
          left = is.left ∙ ap (λ (r : Rule ℕ). r.left) same;
          subset = subset_from g.0 (subsets_of keys) e.left.1 (subst (λ (n : ℕ). IsSubset (rules_with f two) n (subsets_of keys) e.left.1) g.2 is.subset);
          right = refl;
          cost = is.cost ∙ ap (λ (r : Rule ℕ). r.cost) same;
        };
      }

  differences_alike : AreProblemsAlike (edge_with f) (difference one two) (difference (rules_with f one) (rules_with f two))
  differences_alike = record {
    cmp = refl;
    seed_to = λ k s. (s.0, edge_with f s.1, edge_to s.0 [] s.1 s.2, s.3);
    seed_from = λ k s. let r = edge_from s.0 [] s.1 s.2 in (s.0, r.old, r.edge, sym (ap (λ (e : Rule KeyOf). e.left) r.is) ∙ s.3);
    seed_edges = record {
      to = λ o e s. record { none = s.none; edge = edge_to o.0 [] e s.edge };
      from = λ o e s. let r = edge_from o.0 [] e s.edge in (r.old, r.is, record { none = s.none; edge = r.edge });
    };
    edges = λ order n. record {
      to = λ o e s. record { up_to = s.up_to; stands = s.stands; edge = edge_to o.0 (keys_at order o.1) e s.edge };
      from = λ o e s. let r = edge_from o.0 (keys_at order o.1) e s.edge in (r.old, r.is, record { up_to = s.up_to; stands = s.stands; edge = r.edge });
    };
    ends = λ e. refl;
  }

  -- the reached set under the other numbers has the same order
  pub reached_with :
      (order : List KeyOf) (es : List (Rule KeyOf)) → IsReachedSet (difference one two) order es → IsReachedSet (difference (rules_with f one) (rules_with f two)) order (map (edge_with f) es)
  reached_with = reached_alike (edge_with f) (difference one two) (difference (rules_with f one) (rules_with f two)) differences_alike

edges_as_large : (f : ℕ → ℕ) (edges : List (Rule KeyOf)) → edges_total edge_parts (map (edge_with f) edges) ≡ edges_total edge_parts edges
edges_as_large f [] = refl
edges_as_large f (e ∷ edges) = omega (arith, sizes_kept (key_with {K = KeyOf} f) e.right.kids, edges_as_large f edges)

module _ (product : ℕ → ℕ → ℕ) (labels others : List (List ℕ)) (f : ℕ → ℕ) (n : Renumbers labels others f) where
  -- what is reached from trimmed normal forms over the one table is reached from those over the
  -- other
  pub differences_given :
      (g h p q one two three four : GrammarOf) → AgreeByText labels others g p → AgreeByText labels others h q → IsTrimmedForm product g one → IsTrimmedForm max h two →
      IsTrimmedForm product p three → IsTrimmedForm max q four → (order : List KeyOf) (es : List (Rule KeyOf)) → IsReachedSet (difference one.rules two.rules) order es →
      IsReachedSet (difference three.rules four.rules) order (map (edge_with f) es)
  differences_given g h p q one two three four a b first second third fourth order es reached =
      order_is_free (rules_with f one.rules) (rules_with f two.rules) three.rules four.rules (differ product labels others f n g p one three a first third) (differ max labels others f n h q two four b second fourth) order
      (map (edge_with f) es) (reached_with f n.apart one.rules two.rules order es reached)

module _ (product : ℕ → ℕ → ℕ) (limit : ℕ) (labels others : List (List ℕ)) (apart : Distinct labels) (different : Distinct others) where
  -- where what is reached is within the limit, what is reached over the other table is
  pub differences_by_text :
      (f g p q : GrammarOf) → AgreeByText labels others f p → AgreeByText labels others g q → HasReachedFrom limit (AreTrimmedWithSupport product f g) differing →
      HasReachedFrom limit (AreTrimmedWithSupport product p q) differing
  differences_by_text f g p q a b w =
      let s = renumbering labels others apart different in
      let as_large : edges_total edge_parts (map (edge_with s.0) w.set.edges) ≡ edges_total edge_parts w.set.edges = edges_as_large s.0 w.set.edges in
      let within : edges_total (key_parts (λ (k : KeyOf). key_entries k)) w.set.order + edges_total edge_parts w.set.edges ≤ limit = w.set.within in
      record {
        from = (grammar_with s.0 w.from.0, grammar_with s.0 w.from.1);
        is_made = (trimmed_given product labels others s.0 s.1 f p w.from.0 a w.is_made.0, trimmed_given max labels others s.0 s.1 g q w.from.1 b w.is_made.1);
        set = record {
          order = w.set.order;
          edges = map (edge_with s.0) w.set.edges;
          reached = reached_with s.0 s.1.apart w.from.0.rules w.from.1.rules w.set.order w.set.edges w.set.reached;
          within = omega (arith, within, as_large);
        };
      }
