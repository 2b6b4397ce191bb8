-- The pairs of states under other numbers of labels, and of rules in another order.
use Rattle.std.specs.Prelude.{◌≡◌, ℕ, ◌<◌, List, length, map, zip, refl}
use Rattle.std.proofs.Common.{arith, ap, sym, ◌∙◌, subst}
use Rattle.std.proofs.lemmas.List.{length-map}
use Rattle.tib_tree.specs.Trees.{only, relabel_tree}
use Rattle.tib_grammar.specs.Sides.{label, Side, holes, over}
use Rattle.tib_grammar.specs.GrammarOf.{GrammarOf}
use Rattle.tib_grammar.specs.Run.{rule_at}
use Rattle.tib_grammar.specs.declared.Rule.{Rule}
use Rattle.tib_grammar_file.specs.ByText.{AgreeByText}
use Rattle.tib_grammar_file.proofs.Relabelled.{symbol_with, rule_with, rules_with, at_with, holes_with}
use Rattle.tib_grammar_file.proofs.Renumbering.{Renumbers}
use Rattle.tib_grammar_file.proofs.RunsByText.{rules_given}
use Rattle.tib_expand.specs.Reached.{IsReachedSet}
use Rattle.tib_normal.specs.NormalForm.{IsNormalForm}
use Rattle.tib_canon.specs.TrimmedForms.{IsTrimmedForm}
use Rattle.tib_canon.proofs.EdgesByText.{key_with, edge_with, holes_kept, over_kept}
use Rattle.tib_canon.proofs.NormalByText.{form_with, label_found}
use Rattle.tib_canon.proofs.ReachedAlike.{AreProblemsAlike, reached_alike}
use Rattle.tib_canon.proofs.SameRules.{same_rules}
use Rattle.tib_canon.proofs.TrimmedByText.{grammar_with, trimmed_with}
use Rattle.tib_key_edges.specs.Ends.{key_at as pair_at}
use Rattle.tib_intersect.specs.PairEdges.{IsPairEdge}
use Rattle.tib_intersect.specs.Intersection.{intersection}
use Rattle.tib_intersect.proofs.OrderFree.{order_is_free}
use Rattle.tib_lex.specs.Lists.{IsReordering}

-- an edge under the other numbers is that of an edge under the old ones
record HasOldEdge (product : ℕ → ℕ → ℕ) (f : ℕ → ℕ) (one two : List (Rule ℕ)) (key o : ℕ × ℕ) (e : Rule (ℕ × ℕ)) : Type 0 where
  old : Rule (ℕ × ℕ)
  is : e ≡ edge_with f old
  edge : IsPairEdge product one two key o old

module _ (product : ℕ → ℕ → ℕ) (f : ℕ → ℕ) (apart : (i j : ℕ) → f i ≡ f j → i ≡ j) (one two : List (Rule ℕ)) where
  kids_kept : (rules : List (Rule ℕ)) (n : ℕ) → n < length rules → holes (rule_at (rules_with f rules) n).right.kids ≡ holes (rule_at rules n).right.kids
  kids_kept rules n h = ap (λ (r : Rule ℕ). holes r.right.kids) (at_with f rules n h) ∙ holes_with f (rule_at rules n).right.kids

  edge_to : (key o : ℕ × ℕ) (e : Rule (ℕ × ℕ)) → IsPairEdge product one two key o e → IsPairEdge product (rules_with f one) (rules_with f two) key o (edge_with f e)
  edge_to key o e is =
      let a : rule_at (rules_with f one) o.0 ≡ rule_with f (rule_at one o.0) = at_with f one o.0 is.first in
      let b : rule_at (rules_with f two) o.1 ≡ rule_with f (rule_at two o.1) = at_with f two o.1 is.second in
      let c = kids_kept one o.0 is.first in
      let d = kids_kept two o.1 is.second in
      record {
        first = omega (arith, is.first, length-map one (rule_with f));
        second = omega (arith, is.second, length-map two (rule_with f));
        from = is.from ∙ sym (λ i. ((a i).left, (b i).left));
        root = f is.root;
        first_root = ap (λ (r : Rule ℕ). r.right.label) a ∙ ap (symbol_with f) is.first_root;
        second_root = ap (λ (r : Rule ℕ). r.right.label) b ∙ ap (symbol_with f) is.second_root;
        rank = ap length c ∙ is.rank ∙ sym (ap length d);
        left = is.left;
        right =
            ap (relabel_tree (key_with f)) is.right
            ∙ over_kept f is.root (zip (holes (rule_at one o.0).right.kids) (holes (rule_at two o.1).right.kids))
            ∙ sym (λ i. over (f is.root) (zip (c i) (d i)));
        costs = is.costs ∙ sym (λ i. product (a i).cost (b i).cost);
        within = is.within;
      }

  edge_from : (key o : ℕ × ℕ) (e : Rule (ℕ × ℕ)) → IsPairEdge product (rules_with f one) (rules_with f two) key o e → HasOldEdge product f one two key o e
  edge_from key o e is =
      let below : o.0 < length one = omega (arith, is.first, length-map one (rule_with f)) in
      let beside : o.1 < length two = omega (arith, is.second, length-map two (rule_with f)) in
      let a : rule_at (rules_with f one) o.0 ≡ rule_with f (rule_at one o.0) = at_with f one o.0 below in
      let b : rule_at (rules_with f two) o.1 ≡ rule_with f (rule_at two o.1) = at_with f two o.1 beside in
      let c = kids_kept one o.0 below in
      let d = kids_kept two o.1 beside in
      let g = label_found f (rule_at one o.0).right.label is.root (sym (ap (λ (r : Rule ℕ). r.right.label) a) ∙ is.first_root) in
      let h = label_found f (rule_at two o.1).right.label is.root (sym (ap (λ (r : Rule ℕ). r.right.label) b) ∙ is.second_root) in
      let same : h.0 ≡ g.0 = apart h.0 g.0 (sym h.2 ∙ g.2) in
      let ks : List (ℕ × ℕ) = zip (holes (rule_at one o.0).right.kids) (holes (rule_at two o.1).right.kids) in
      let right : e.right ≡ relabel_tree (key_with f) (over g.0 ks) =
      is.right ∙ (λ i. over is.root (zip (c i) (d i))) ∙ ap (λ (n : ℕ). over n ks) g.2 ∙ sym (over_kept f g.0 ks) in
      record {
        old = record { left = e.left; right = over g.0 ks; cost = e.cost };
        is = ap (λ (s : Side ℕ (ℕ × ℕ)). record { left = e.left; right = s; cost = e.cost }) right;
        edge = record {
          first = below;
          second = beside;
          from = is.from ∙ (λ i. ((a i).left, (b i).left));
          root = g.0;
          first_root = g.1;
          second_root = h.1 ∙ ap (λ (n : ℕ). label n) same;
          rank = sym (ap length c) ∙ is.rank ∙ ap length d;
          left = is.left;
          right = refl;
          costs = is.costs ∙ (λ i. product (a i).cost (b i).cost);
          within = is.within;
        };
      }

  pairs_alike : AreProblemsAlike (edge_with f) (intersection product one two) (intersection product (rules_with f one) (rules_with f two))
  pairs_alike = record {
    cmp = refl;
    seed_to = λ k h. h;
    seed_from = λ k h. h;
    seed_edges = record { to = λ o e h. h; from = λ o e h. absurd h };
    edges = λ order n. record {
      to = edge_to (pair_at order n);
      from = λ o e is. let r = edge_from (pair_at order n) o e is in (r.old, r.is, r.edge);
    };
    ends = λ e. holes_kept f (only e.right);
  }

  -- the reached set under the other numbers has the same order
  pub reached_with :
      (order : List (ℕ × ℕ)) (es : List (Rule (ℕ × ℕ))) → IsReachedSet (intersection product one two) order es →
      IsReachedSet (intersection product (rules_with f one) (rules_with f two)) order (map (edge_with f) es)
  reached_with = reached_alike (edge_with f) (intersection product one two) (intersection product (rules_with f one) (rules_with f two)) pairs_alike

-- trimmed normal forms under the numbers of the other table
module _ (product : ℕ → ℕ → ℕ) (labels others : List (List ℕ)) (f : ℕ → ℕ) (n : Renumbers labels others f) where
  pub trimmed_given : (g h m : GrammarOf) → AgreeByText labels others g h → IsTrimmedForm product g m → IsTrimmedForm product h (grammar_with f m)
  trimmed_given g h m a t =
      let moved = form_with product f n.apart (length g.names) g.rules (length t.normal.names) t.normal.rules t.form in
      record {
        normal = grammar_with f t.normal;
        form =
            subst (λ (rs : List (Rule ℕ)). IsNormalForm product (length h.names) rs (length t.normal.names) (rules_with f t.normal.rules)) (rules_given labels others f n g.rules h.rules a.rules)
            (subst (λ (k : ℕ). IsNormalForm product k (rules_with f g.rules) (length t.normal.names) (rules_with f t.normal.rules)) (ap length a.names) moved);
        trimmed = trimmed_with product f t.normal m t.trimmed;
      }

  -- any two trimmed normal forms of grammars that agree have the same rules, but for the numbers of
  -- labels
  pub differ : (g h m k : GrammarOf) → AgreeByText labels others g h → IsTrimmedForm product g m → IsTrimmedForm product h k → IsReordering (rules_with f m.rules) k.rules
  differ g h m k a t u =
      let s = same_rules product h (grammar_with f m) k (trimmed_given g h m a t) u in
      record { to = s.to; from = s.from; once_first = s.once_first; once_second = s.once_second }

  -- so the pairs of the ones reach what those of the others do
  pub pairs_given :
      (g h p q one two three four : GrammarOf) → AgreeByText labels others g p → AgreeByText labels others h q → IsTrimmedForm product g one → IsTrimmedForm product h two →
      IsTrimmedForm product p three → IsTrimmedForm product q four → (order : List (ℕ × ℕ)) (es : List (Rule (ℕ × ℕ))) → IsReachedSet (intersection product one.rules two.rules) order es →
      IsReachedSet (intersection product three.rules four.rules) order (map (edge_with f) es)
  pairs_given g h p q one two three four a b first second third fourth order es reached =
      order_is_free product (rules_with f one.rules) (rules_with f two.rules) three.rules four.rules (differ g p one three a first third) (differ h q two four b second fourth) order (map (edge_with f) es)
      (reached_with product f n.apart one.rules two.rules order es reached)
