-- Normal forms and the pairs of two grammars have as many parts over each table of labels.
use Rattle.std.proofs.Common.{◌≡◌, ℕ, ◌+◌, ◌≤◌, List, [], ◌∷◌, length, map, refl, ap, subst, arith}
use Rattle.tib_lex.specs.Lists.{Distinct, total, total as edges_total}
use Rattle.tib_grammar.specs.GrammarOf.{GrammarOf}
use Rattle.tib_grammar.specs.declared.Rule.{Rule}
use Rattle.tib_grammar_file.specs.ByText.{AgreeByText}
use Rattle.tib_grammar_file.proofs.Relabelled.{symbol_with, rules_with}
use Rattle.tib_grammar_file.proofs.Renumbering.{renumbering}
use Rattle.tib_grammar_file.proofs.RunsByText.{rules_given}
use Rattle.tib_normal.specs.NormalForm.{IsNormalForm, rule_parts}
use Rattle.tib_normal.specs.Rows.{HasFormWithin}
use Rattle.tib_expand.specs.Keys.{key_parts}
use Rattle.tib_intersect.specs.PairEdges.{edge_parts}
use Rattle.tib_canon.proofs.EdgesByText.{key_with, edge_with}
use Rattle.tib_canon.proofs.NormalByText.{form_with}
use Rattle.tib_canon.proofs.TrimmedByText.{grammar_with}
use Rattle.tib_operations.specs.Made.{HasReachedFrom}
use Rattle.tib_operations.specs.Intersect.{AreTrimmedForms, intersecting}
use Rattle.tib_operations.proofs.PairsByText.{trimmed_given, reached_with}
use Rattle.tib_operations.proofs.Tables.{sizes_kept}

rules_as_large : (f : ℕ → ℕ) (rules : List (Rule ℕ)) → total rule_parts (rules_with f rules) ≡ total rule_parts rules
rules_as_large f [] = refl
rules_as_large f (r ∷ rules) = omega (arith, sizes_kept (symbol_with f) r.right.kids, rules_as_large f rules)

edges_as_large : (f : ℕ → ℕ) (edges : List (Rule (ℕ × ℕ))) → edges_total edge_parts (map (edge_with f) edges) ≡ edges_total edge_parts edges
edges_as_large f [] = refl
edges_as_large f (e ∷ edges) = omega (arith, sizes_kept (key_with {K = ℕ × ℕ} f) e.right.kids, edges_as_large f edges)

module _ (product : ℕ → ℕ → ℕ) (limit : ℕ) (labels others : List (List ℕ)) (apart : Distinct labels) (different : Distinct others) where
  -- where a grammar has a normal form within the limit, the grammar over the other table has one
  pub within_by_text : (g h : GrammarOf) → AgreeByText labels others g h → HasFormWithin product (length g.names) g.rules limit → HasFormWithin product (length h.names) h.rules limit
  within_by_text g h a w =
      let s = renumbering labels others apart different in
      let f : ℕ → ℕ = s.0 in
      let moved = form_with product f s.1.apart (length g.names) g.rules w.states_in_all w.normal_rules w.form in
      record {
        states_in_all = w.states_in_all;
        normal_rules = rules_with f w.normal_rules;
        form =
            subst (λ (rs : List (Rule ℕ)). IsNormalForm product (length h.names) rs w.states_in_all (rules_with f w.normal_rules)) (rules_given labels others f s.1 g.rules h.rules a.rules)
            (subst (λ (k : ℕ). IsNormalForm product k (rules_with f g.rules) w.states_in_all (rules_with f w.normal_rules)) (ap length a.names) moved);
        within = omega (arith, w.within, rules_as_large f w.normal_rules);
      }

  -- and so with two grammars whose pairs are within the limit
  pub pairs_by_text :
      (f g h k : GrammarOf) → AgreeByText labels others f h → AgreeByText labels others g k → HasReachedFrom limit (AreTrimmedForms product f g) (intersecting product) →
      HasReachedFrom limit (AreTrimmedForms product h k) (intersecting product)
  pairs_by_text f g h k a b w =
      let s = renumbering labels others apart different in
      let as_large : edges_total edge_parts (map (edge_with s.0) w.set.edges) ≡ edges_total edge_parts w.set.edges = edges_as_large s.0 w.set.edges in
      let within : edges_total (key_parts (λ (x : ℕ × ℕ). 2)) w.set.order + edges_total edge_parts w.set.edges ≤ limit = w.set.within in
      record {
        from = (grammar_with s.0 w.from.0, grammar_with s.0 w.from.1);
        is_made = (trimmed_given product labels others s.0 s.1 f h w.from.0 a w.is_made.0, trimmed_given product labels others s.0 s.1 g k w.from.1 b w.is_made.1);
        set = record {
          order = w.set.order;
          edges = map (edge_with s.0) w.set.edges;
          reached = reached_with product s.0 s.1.apart w.from.0.rules w.from.1.rules w.set.order w.set.edges w.set.reached;
          within = omega (arith, within, as_large);
        };
      }
