-- The vectors of states with residuals under other numbers of labels, and over rules in another
-- order.
use Rattle.std.proofs.Common.{◌≡◌, ℕ, ◌+◌, ◌<◌, ◌≤◌, List, [], ◌∷◌, length, map, refl, ap, sym, ◌∙◌, subst, arith}
use Rattle.std.specs.Prelude.{Some}
use Rattle.tib_lex.specs.Lists.{Has, Distinct, IsReordering, total as edges_total}
use Rattle.tib_lex.proofs.Lists.{has_mapped, mapped_has}
use Rattle.tib_lex.proofs.Members.{has_at, at_has}
use Rattle.tib_cost.proofs.Least.{IsLeast-same}
use Rattle.tib_tree.specs.Trees.{only, relabel_tree}
use Rattle.tib_grammar.specs.GrammarOf.{GrammarOf}
use Rattle.tib_grammar.specs.Run.{rule_at, no_rule}
use Rattle.tib_grammar.specs.Sides.{Symbol, label, hole, Side, holes, over}
use Rattle.tib_grammar.specs.declared.Rule.{Rule}
use Rattle.tib_grammar_file.specs.ByText.{AgreeByText}
use Rattle.tib_grammar_file.proofs.Relabelled.{symbol_with, rule_with, rules_with, holes_with}
use Rattle.tib_grammar_file.proofs.Renumbering.{Renumbers, renumbering}
use Rattle.tib_expand.specs.Keys.{key_parts}
use Rattle.tib_expand.specs.Reached.{IsReachedSet, IsBeyond}
use Rattle.tib_canon.specs.TrimmedForms.{IsTrimmedForm}
use Rattle.tib_canon.proofs.EdgesByText.{key_with, edge_with, over_kept}
use Rattle.tib_canon.proofs.NormalByText.{label_found}
use Rattle.tib_canon.proofs.ReachedAlike.{CorrespondBy, AreProblemsRenamed, reached_renamed}
use Rattle.tib_canon.proofs.TrimmedByText.{grammar_with}
use Rattle.tib_determinize.specs.Determinization.{IsVectorSeed, IsVectorEdge, IsSeed, determinization, edge_parts}
use Rattle.tib_determinize.specs.Vectors.{VectorOf, IsWeight, IsStepCost, IsSomeCost, IsStep, vectors_at}
use Rattle.tib_operations.specs.Determinize.{determinizing}
use Rattle.tib_operations.specs.Made.{HasReachedFrom}
use Rattle.tib_operations.proofs.PairsByText.{differ, trimmed_given}
use Rattle.tib_operations.proofs.Tables.{sizes_kept}

-- a rule with the number of its label exchanged for another
pub record IsMoved (f : ℕ → ℕ) (r s : Rule ℕ) : Type 0 where
  pub left : s.left ≡ r.left
  pub root : s.right.label ≡ symbol_with f r.right.label
  pub kids : holes s.right.kids ≡ holes r.right.kids
  pub cost : s.cost ≡ r.cost

-- each rule of the one list is one of the other under other numbers, and each of the other comes
-- from one
pub record AreMoved (f : ℕ → ℕ) (xs ys : List (Rule ℕ)) : Type 0 where
  pub to : (r : Rule ℕ) → Has xs r → (s : Rule ℕ) × Has ys s × IsMoved f r s
  pub from : (s : Rule ℕ) → Has ys s → (r : Rule ℕ) × Has xs r × IsMoved f r s

same_origin : (o r : ℕ × List ℕ) → o.0 ≡ r.0 → o.1 ≡ r.1 → o ≡ r
same_origin o r a b = λ i. (a i, b i)

module _ (product : ℕ → ℕ → ℕ) (f : ℕ → ℕ) (apart : (i j : ℕ) → f i ≡ f j → i ≡ j) (xs ys : List (Rule ℕ)) (moved : AreMoved f xs ys) where
  cost_to : (g : ℕ) (vs : List VectorOf) (q u : ℕ) → IsStepCost product xs g vs q u → IsStepCost product ys (f g) vs q u
  cost_to g vs q u c =
      let s = moved.to (rule_at xs c.rule) (has_at xs c.rule no_rule c.below) in
      let at = at_has ys s.0 no_rule s.1 in
      record {
        rule = at.0;
        below = at.1;
        left = ap (λ (r : Rule ℕ). r.left) at.2 ∙ s.2.left ∙ c.left;
        root = ap (λ (r : Rule ℕ). r.right.label) at.2 ∙ s.2.root ∙ ap (symbol_with f) c.root;
        weight = c.weight;
        is_weight = subst (λ (qs : List ℕ). IsWeight product qs vs c.weight) (sym (ap (λ (r : Rule ℕ). holes r.right.kids) at.2 ∙ s.2.kids)) c.is_weight;
        costs = ap (λ (w : ℕ). product w c.weight) (ap (λ (r : Rule ℕ). r.cost) at.2 ∙ s.2.cost) ∙ c.costs;
      }

  -- a cost at a label is one at a label of the other table
  record IsOldCost (h : ℕ) (vs : List VectorOf) (q u : ℕ) : Type 0 where
    label : ℕ
    is : h ≡ f label
    costs : IsStepCost product xs label vs q u

  cost_found : (h : ℕ) (vs : List VectorOf) (q u : ℕ) → IsStepCost product ys h vs q u → IsOldCost h vs q u
  cost_found h vs q u c =
      let r = moved.from (rule_at ys c.rule) (has_at ys c.rule no_rule c.below) in
      let at = at_has xs r.0 no_rule r.1 in
      let g = label_found f r.0.right.label h (sym r.2.root ∙ c.root) in
      record {
        label = g.0;
        is = g.2;
        costs = record {
          rule = at.0;
          below = at.1;
          left = ap (λ (z : Rule ℕ). z.left) at.2 ∙ sym r.2.left ∙ c.left;
          root = ap (λ (z : Rule ℕ). z.right.label) at.2 ∙ g.1;
          weight = c.weight;
          is_weight = subst (λ (qs : List ℕ). IsWeight product qs vs c.weight) (sym (ap (λ (z : Rule ℕ). holes z.right.kids) at.2 ∙ sym r.2.kids)) c.is_weight;
          costs = ap (λ (w : ℕ). product w c.weight) (ap (λ (z : Rule ℕ). z.cost) at.2 ∙ sym r.2.cost) ∙ c.costs;
        };
      }

  cost_from : (g : ℕ) (vs : List VectorOf) (q u : ℕ) → IsStepCost product ys (f g) vs q u → IsStepCost product xs g vs q u
  cost_from g vs q u c =
      let o = cost_found (f g) vs q u c in
      subst (λ (n : ℕ). IsStepCost product xs n vs q u) (sym (apart g o.label o.is)) o.costs

  some_to : (g : ℕ) (vs : List VectorOf) (u : ℕ) → IsSomeCost product xs g vs u → IsSomeCost product ys (f g) vs u
  some_to g vs u c = (c.0, cost_to g vs c.0 u c.1)

  some_from : (g : ℕ) (vs : List VectorOf) (u : ℕ) → IsSomeCost product ys (f g) vs u → IsSomeCost product xs g vs u
  some_from g vs u c = (c.0, cost_from g vs c.0 u c.1)

  step_to : (g : ℕ) (vs : List VectorOf) (m : ℕ) (v : VectorOf) → IsStep product xs g vs m v → IsStep product ys (f g) vs m v
  step_to g vs m v s = record {
    least = IsLeast-same (some_to g vs) (some_from g vs) s.least;
    rises = s.rises;
    residuals = λ q r h. let a = s.residuals q r h in (a.0, IsLeast-same (cost_to g vs q) (cost_from g vs q) a.1, a.2);
    others = λ q h. IsLeast-same (cost_to g vs q) (cost_from g vs q) (s.others q h);
  }

  step_from : (g : ℕ) (vs : List VectorOf) (m : ℕ) (v : VectorOf) → IsStep product ys (f g) vs m v → IsStep product xs g vs m v
  step_from g vs m v s = record {
    least = IsLeast-same (some_from g vs) (some_to g vs) s.least;
    rises = s.rises;
    residuals = λ q r h. let a = s.residuals q r h in (a.0, IsLeast-same (cost_from g vs q) (cost_to g vs q) a.1, a.2);
    others = λ q h. IsLeast-same (cost_from g vs q) (cost_to g vs q) (s.others q h);
  }

  -- a step is one of a label of the other table
  step_found : (h : ℕ) (vs : List VectorOf) (m : ℕ) (v : VectorOf) → IsStep product ys h vs m v → (g : ℕ) × (h ≡ f g) × IsStep product xs g vs m v
  step_found h vs m v s =
      let c = s.least.attained.0 in
      let o = cost_found h vs c.0 m c.1 in
      (o.label, o.is, step_from o.label vs m v (subst (λ (n : ℕ). IsStep product ys n vs m v) o.is s))

  abbrev on : ℕ × List ℕ → ℕ × List ℕ
  on o = (f o.0, o.1)

  right_to : (g : ℕ) (vs : List VectorOf) (s : Side ℕ VectorOf) → s ≡ over g vs → relabel_tree (key_with f) s ≡ over (f g) vs
  right_to g vs s e = ap (relabel_tree (key_with f)) e ∙ over_kept f g vs

  right_from : (g h : ℕ) (vs : List VectorOf) (s : Side ℕ VectorOf) → h ≡ f g → s ≡ over h vs → s ≡ relabel_tree (key_with f) (over g vs)
  right_from g h vs s is e = e ∙ ap (λ (n : ℕ). over n vs) is ∙ sym (over_kept f g vs)

  seed_edges : CorrespondBy on (edge_with f) (IsVectorSeed product xs) (IsVectorSeed product ys)
  seed_edges = record {
    to = λ o e s. record { none = s.none; step = step_to o.0 [] e.cost e.left s.step; right = right_to o.0 [] e.right s.right };
    from = λ o e s.
        let g = step_found o.0 [] e.cost e.left s.step in (
          (g.0, o.1),
          record { left = e.left; right = over g.0 []; cost = e.cost },
          same_origin o (f g.0, o.1) g.1 refl,
          ap (λ (k : Side ℕ VectorOf). record { left = e.left; right = k; cost = e.cost }) (right_from g.0 o.0 [] e.right g.1 s.right),
          record { none = s.none; step = g.2; right = refl },
        );
  }

  position_edges : (order : List VectorOf) (n : ℕ) → CorrespondBy on (edge_with f) (IsVectorEdge product xs order n) (IsVectorEdge product ys order n)
  position_edges order n = record {
    to = λ o e s. record {
      up_to = s.up_to;
      stands = s.stands;
      step = step_to o.0 (vectors_at order o.1) e.cost e.left s.step;
      right = right_to o.0 (vectors_at order o.1) e.right s.right;
    };
    from = λ o e s.
        let vs : List VectorOf = vectors_at order o.1 in
        let g = step_found o.0 vs e.cost e.left s.step in (
          (g.0, o.1),
          record { left = e.left; right = over g.0 vs; cost = e.cost },
          same_origin o (f g.0, o.1) g.1 refl,
          ap (λ (k : Side ℕ VectorOf). record { left = e.left; right = k; cost = e.cost }) (right_from g.0 o.0 vs e.right g.1 s.right),
          record { up_to = s.up_to; stands = s.stands; step = g.2; right = refl },
        );
  }

  vectors_alike : AreProblemsRenamed on (edge_with f) (determinization product xs) (determinization product ys)
  vectors_alike = record {
    apart = λ o r e. same_origin o r (apart o.0 r.0 (ap (λ (z : ℕ × List ℕ). z.0) e)) (ap (λ (z : ℕ × List ℕ). z.1) e);
    cmp = refl;
    seed_to = λ v s. (f s.0, s.1, step_to s.0 [] s.1 v s.2);
    seed_from = λ v s. let g = step_found s.0 [] s.1 v s.2 in (g.0, s.1, g.2);
    seed_edges = seed_edges;
    edges = position_edges;
    ends = λ e. refl;
  }

  -- the reached set has the same order
  pub reached_moved : (order : List VectorOf) (es : List (Rule VectorOf)) → IsReachedSet (determinization product xs) order es → IsReachedSet (determinization product ys) order (map (edge_with f) es)
  reached_moved = reached_renamed on (edge_with f) (determinization product xs) (determinization product ys) vectors_alike

-- rules in another order

is_itself : (r : Rule ℕ) → IsMoved (λ (n : ℕ). n) r r
is_itself r = record { left = refl; root = sym (unmoved r.right.label); kids = refl; cost = refl }
  where
    unmoved : (s : Symbol ℕ ℕ) → symbol_with (λ (n : ℕ). n) s ≡ s
    unmoved (label g) = refl
    unmoved (hole q) = refl

pub reordered : (xs ys : List (Rule ℕ)) → IsReordering xs ys → AreMoved (λ (n : ℕ). n) xs ys
reordered xs ys same = record { to = λ r h. (r, same.to r h, is_itself r); from = λ r h. (r, same.from r h, is_itself r) }

-- rules under other numbers of labels, in any order
pub renumbered : (f : ℕ → ℕ) (xs ys : List (Rule ℕ)) → IsReordering (rules_with f xs) ys → AreMoved f xs ys
renumbered f xs ys same = record {
  to = λ r h. (rule_with f r, same.to (rule_with f r) (mapped_has (rule_with f) xs r h), record { left = refl; root = refl; kids = holes_with f r.right.kids; cost = refl });
  from = λ s h.
      let a = has_mapped (rule_with f) xs s (same.from s h) in (
        a.0,
        a.1,
        record {
          left = sym (ap (λ (z : Rule ℕ). z.left) a.2);
          root = sym (ap (λ (z : Rule ℕ). z.right.label) a.2);
          kids = sym (ap (λ (z : Rule ℕ). holes z.right.kids) a.2) ∙ holes_with f a.0.right.kids;
          cost = sym (ap (λ (z : Rule ℕ). z.cost) a.2);
        },
      );
}

pub edges_as_large : (f : ℕ → ℕ) (edges : List (Rule VectorOf)) → edges_total edge_parts (map (edge_with f) edges) ≡ edges_total edge_parts edges
edges_as_large f [] = refl
edges_as_large f (e ∷ edges) = omega (arith, sizes_kept (key_with {K = VectorOf} f) e.right.kids, edges_as_large f edges)

-- more vectors than the limit, whichever trimmed normal form is taken
pub more_vectors :
    (product : ℕ → ℕ → ℕ) (limit : ℕ) (g form : GrammarOf) → ((h m n : GrammarOf) → IsTrimmedForm product h m → IsTrimmedForm product h n → IsReordering m.rules n.rules) → IsTrimmedForm product g form →
    IsBeyond (determinization product form.rules) limit → (from : GrammarOf) → IsTrimmedForm product g from → IsBeyond (determinizing product from).problem limit
more_vectors product limit g form same is beyond from are order edges reached =
    let more : limit < edges_total (key_parts (λ (v : VectorOf). length v)) order + edges_total edge_parts (map (edge_with (λ (n : ℕ). n)) edges) =
    beyond order (map (edge_with (λ (n : ℕ). n)) edges) (reached_moved product (λ (n : ℕ). n) (λ i j e. e) from.rules form.rules (reordered from.rules form.rules (same g from form are is)) order edges reached) in
    omega (arith, more, edges_as_large (λ (n : ℕ). n) edges)

module _ (product : ℕ → ℕ → ℕ) (labels others : List (List ℕ)) (f : ℕ → ℕ) (n : Renumbers labels others f) where
  -- the vectors of a trimmed normal form reach what those of another do, over the other table
  pub vectors_given :
      (g h m k : GrammarOf) → AgreeByText labels others g h → IsTrimmedForm product g m → IsTrimmedForm product h k → (order : List VectorOf) (es : List (Rule VectorOf)) →
      IsReachedSet (determinization product m.rules) order es → IsReachedSet (determinization product k.rules) order (map (edge_with f) es)
  vectors_given g h m k a t u = reached_moved product f n.apart m.rules k.rules (renumbered f m.rules k.rules (differ product labels others f n g h m k a t u))

module _ (product : ℕ → ℕ → ℕ) (limit : ℕ) (labels others : List (List ℕ)) (apart : Distinct labels) (different : Distinct others) where
  -- where the vectors of a grammar are within the limit, those of the grammar over the other table
  -- are
  pub vectors_by_text :
      (g h : GrammarOf) → AgreeByText labels others g h → HasReachedFrom limit (IsTrimmedForm product g) (determinizing product) → HasReachedFrom limit (IsTrimmedForm product h) (determinizing product)
  vectors_by_text g h a w =
      let s = renumbering labels others apart different in
      let there = trimmed_given product labels others s.0 s.1 g h w.from a w.is_made in
      let within : edges_total (key_parts (λ (v : VectorOf). length v)) w.set.order + edges_total edge_parts w.set.edges ≤ limit = w.set.within in
      record {
        from = grammar_with s.0 w.from;
        is_made = there;
        set = record {
          order = w.set.order;
          edges = map (edge_with s.0) w.set.edges;
          reached = vectors_given product labels others s.0 s.1 g h w.from (grammar_with s.0 w.from) a w.is_made there w.set.order w.set.edges w.set.reached;
          within = omega (arith, within, edges_as_large s.0 w.set.edges);
        };
      }
