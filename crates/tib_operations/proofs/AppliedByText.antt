-- What forward and backward application reach does not depend on the numbers of labels, nor on the
-- trimmed normal form that is taken.
use Rattle.std.proofs.Common.{◌≡◌, ℕ, ◌+◌, ◌<◌, ◌≤◌, List, [], ◌∷◌, map, refl, sym, ap, ◌∙◌, subst, arith, Option}
use Rattle.std.specs.Prelude.{Some, None, option_map}
use Rattle.tib_lex.specs.Lists.{Distinct, IsReordering, total}
use Rattle.tib_grammar.specs.Sides.{Symbol, label, hole, Side as SideFor}
use Rattle.tib_transducer.specs.declared.Variable.{Variable}
use Rattle.tib_transducer.specs.declared.Pair.{Pair}
use Rattle.tib_operations.proofs.TransducerTables.{right_with, rule_with}
use Rattle.tib_tree.specs.Trees.{only}
use Rattle.tib_grammar.specs.GrammarOf.{GrammarOf}
use Rattle.tib_grammar.specs.declared.Rule.{Rule}
use Rattle.tib_grammar_file.specs.ByText.{AgreeByText}
use Rattle.tib_grammar_file.proofs.Renumbering.{Renumbers, renumbering}
use Rattle.tib_transducer.specs.TransducerOf.{TransducerOf}
use Rattle.tib_transducer.specs.declared.TransducerRule.{TransducerRule}
use Rattle.tib_transducer_file.specs.ByText.{AreOneTransducer}
use Rattle.tib_expand.specs.Reached.{IsReachedSet, IsBeyond}
use Rattle.tib_expand.specs.Keys.{key_parts}
use Rattle.tib_apply.specs.KeyGrammars.{key_at}
use Rattle.tib_apply.specs.Operations.{key_entries, edge_parts, forward_image, inverse_image}
use Rattle.tib_canon.specs.TrimmedForms.{IsTrimmedForm}
use Rattle.tib_canon.proofs.EdgesByText.{key_with, edge_with, holes_kept}
use Rattle.tib_canon.proofs.ReachedAlike.{AreProblemsAlike, reached_alike}
use Rattle.tib_canon.proofs.SameRules.{same_rules}
use Rattle.tib_canon.proofs.TrimmedByText.{grammar_with}
use Rattle.tib_canon.proofs.Relabelled.{left_with}
use Rattle.tib_operations.specs.Made.{HasReachedFrom}
use Rattle.tib_operations.specs.Forward.{forwarding}
use Rattle.tib_operations.specs.Backward.{inverting}
use Rattle.tib_operations.proofs.EdgesApplied.{AreMoved, reordered, forward_to, forward_from, backward_to, backward_from}
use Rattle.tib_operations.proofs.MovesByText.{moves_with, moves_given}
use Rattle.tib_operations.proofs.PairsByText.{trimmed_given, differ}
use Rattle.tib_operations.proofs.Tables.{sizes_kept, tree_itself, all_itself, rules_itself}

edges_as_large : (f : ℕ → ℕ) (edges : List (Rule (ℕ × ℕ × ℕ))) → total edge_parts (map (edge_with f) edges) ≡ total edge_parts edges
edges_as_large f [] = refl
edges_as_large f (e ∷ edges) = omega (arith, sizes_kept (key_with {K = ℕ × ℕ × ℕ} f) e.right.kids, edges_as_large f edges)

module _ (product : ℕ → ℕ → ℕ) (f : ℕ → ℕ) (apart : (i j : ℕ) → f i ≡ f j → i ≡ j) (xs ys : List (Rule ℕ)) (moved : AreMoved f xs ys) (moves : List (TransducerRule ℕ)) where
  forward_alike : AreProblemsAlike (edge_with f) (forward_image product xs moves) (forward_image product ys (moves_with f moves))
  forward_alike = record {
    cmp = refl;
    seed_to = λ k h. h;
    seed_from = λ k h. h;
    seed_edges = record { to = λ o e h. h; from = λ o e h. absurd h };
    edges = λ order n. record {
      to = forward_to product f apart xs ys moved moves (key_at order n);
      from = forward_from product f apart xs ys moved moves (key_at order n);
    };
    ends = λ e. holes_kept f (only e.right);
  }

  backward_alike : AreProblemsAlike (edge_with f) (inverse_image product moves xs) (inverse_image product (moves_with f moves) ys)
  backward_alike = record {
    cmp = refl;
    seed_to = λ k h. h;
    seed_from = λ k h. h;
    seed_edges = record { to = λ o e h. h; from = λ o e h. absurd h };
    edges = λ order n. record {
      to = backward_to product f apart xs ys moved moves (key_at order n);
      from = backward_from product f apart xs ys moved moves (key_at order n);
    };
    ends = λ e. holes_kept f (only e.right);
  }

module _ (product : ℕ → ℕ → ℕ) (labels others : List (List ℕ)) (f : ℕ → ℕ) (n : Renumbers labels others f) (g h m k : GrammarOf) (t u : TransducerOf) (a : AgreeByText labels others g h)
    (b : AreOneTransducer labels others t u) (first : IsTrimmedForm product g m) (second : IsTrimmedForm product h k) where
  forms_moved : AreMoved f m.rules k.rules
  forms_moved = reordered f m.rules k.rules (differ product labels others f n g h m k a first second)

  pub forward_given :
      (order : List (ℕ × ℕ × ℕ)) (es : List (Rule (ℕ × ℕ × ℕ))) → IsReachedSet (forward_image product m.rules t.rules) order es →
      IsReachedSet (forward_image product k.rules u.rules) order (map (edge_with f) es)
  forward_given order es reached =
      subst (λ (ms : List (TransducerRule ℕ)). IsReachedSet (forward_image product k.rules ms) order (map (edge_with f) es)) (moves_given labels others f n t.rules u.rules b.rules)
      (reached_alike (edge_with f) (forward_image product m.rules t.rules) (forward_image product k.rules (moves_with f t.rules))
      (forward_alike product f n.apart m.rules k.rules forms_moved t.rules) order es reached)

  pub backward_given :
      (order : List (ℕ × ℕ × ℕ)) (es : List (Rule (ℕ × ℕ × ℕ))) → IsReachedSet (inverse_image product t.rules m.rules) order es →
      IsReachedSet (inverse_image product u.rules k.rules) order (map (edge_with f) es)
  backward_given order es reached =
      subst (λ (ms : List (TransducerRule ℕ)). IsReachedSet (inverse_image product ms k.rules) order (map (edge_with f) es)) (moves_given labels others f n t.rules u.rules b.rules)
      (reached_alike (edge_with f) (inverse_image product t.rules m.rules) (inverse_image product (moves_with f t.rules) k.rules)
      (backward_alike product f n.apart m.rules k.rules forms_moved t.rules) order es reached)

-- as many parts over each table of labels

module _ (product : ℕ → ℕ → ℕ) (limit : ℕ) (labels others : List (List ℕ)) (apart : Distinct labels) (different : Distinct others) (g h : GrammarOf) (t u : TransducerOf)
    (a : AgreeByText labels others g h) (b : AreOneTransducer labels others t u) where
  pub forward_by_text : HasReachedFrom limit (IsTrimmedForm product g) (forwarding product t) → HasReachedFrom limit (IsTrimmedForm product h) (forwarding product u)
  forward_by_text w =
      let s = renumbering labels others apart different in
      let as_large : total edge_parts (map (edge_with s.0) w.set.edges) ≡ total edge_parts w.set.edges = edges_as_large s.0 w.set.edges in
      let within : total (key_parts key_entries) w.set.order + total edge_parts w.set.edges ≤ limit = w.set.within in
      let made = trimmed_given product labels others s.0 s.1 g h w.from a w.is_made in
      record {
        from = grammar_with s.0 w.from;
        is_made = made;
        set = record {
          order = w.set.order;
          edges = map (edge_with s.0) w.set.edges;
          reached = forward_given product labels others s.0 s.1 g h w.from (grammar_with s.0 w.from) t u a b w.is_made made w.set.order w.set.edges w.set.reached;
          within = omega (arith, within, as_large);
        };
      }

  pub backward_by_text : HasReachedFrom limit (IsTrimmedForm product g) (inverting product t) → HasReachedFrom limit (IsTrimmedForm product h) (inverting product u)
  backward_by_text w =
      let s = renumbering labels others apart different in
      let as_large : total edge_parts (map (edge_with s.0) w.set.edges) ≡ total edge_parts w.set.edges = edges_as_large s.0 w.set.edges in
      let within : total (key_parts key_entries) w.set.order + total edge_parts w.set.edges ≤ limit = w.set.within in
      let made = trimmed_given product labels others s.0 s.1 g h w.from a w.is_made in
      record {
        from = grammar_with s.0 w.from;
        is_made = made;
        set = record {
          order = w.set.order;
          edges = map (edge_with s.0) w.set.edges;
          reached = backward_given product labels others s.0 s.1 g h w.from (grammar_with s.0 w.from) t u a b w.is_made made w.set.order w.set.edges w.set.reached;
          within = omega (arith, within, as_large);
        };
      }

-- more keys than the limit, whichever trimmed normal form is taken

option_itself : (o : Option ℕ) → option_map (λ i. i) o ≡ o
option_itself None = refl
option_itself (Some x) = refl

left_itself : (s : Symbol ℕ Variable) → left_with (λ i. i) s ≡ s
left_itself (label g) = refl
left_itself (hole x) = ap (λ (o : Option ℕ). hole (record { number = x.number; label = o })) (option_itself x.label)

right_itself : (s : Symbol ℕ (Pair ℕ)) → right_with (λ i. i) s ≡ s
right_itself (label g) = refl
right_itself (hole x) = refl

moves_itself : (moves : List (TransducerRule ℕ)) → moves_with (λ i. i) moves ≡ moves
moves_itself moves =
    all_itself (rule_with (λ i. i))
    (λ r.
    ap (λ (s : SideFor ℕ Variable). record { state = r.state; left = s; right = (rule_with (λ i. i) r).right; cost = r.cost }) (tree_itself (left_with (λ i. i)) left_itself r.left)
    ∙ ap (λ (s : SideFor ℕ (Pair ℕ)). record { state = r.state; left = r.left; right = s; cost = r.cost }) (tree_itself (right_with (λ i. i)) right_itself r.right)) moves

module _ (product : ℕ → ℕ → ℕ) (limit : ℕ) (g one two : GrammarOf) (t : TransducerOf) (first : IsTrimmedForm product g one) (second : IsTrimmedForm product g two) where
  forms_reordered : AreMoved (λ i. i) one.rules two.rules
  forms_reordered =
      let s = same_rules product g one two first second in
      reordered (λ i. i) one.rules two.rules
      (subst (λ (rs : List (Rule ℕ)). IsReordering rs two.rules) (sym (rules_itself one.rules)) (record { to = s.to; from = s.from; once_first = s.once_first; once_second = s.once_second }))

  pub more_forward : IsBeyond (forwarding product t two).problem limit → IsBeyond (forwarding product t one).problem limit
  more_forward beyond order edges reached =
      let moved : IsReachedSet (forward_image product two.rules t.rules) order (map (edge_with (λ i. i)) edges) =
      subst (λ (ms : List (TransducerRule ℕ)). IsReachedSet (forward_image product two.rules ms) order (map (edge_with (λ i. i)) edges)) (moves_itself t.rules)
      (reached_alike (edge_with (λ i. i)) (forward_image product one.rules t.rules) (forward_image product two.rules (moves_with (λ i. i) t.rules))
      (forward_alike product (λ i. i) (λ i j e. e) one.rules two.rules forms_reordered t.rules) order edges reached)
      in
      let as_large : total edge_parts (map (edge_with (λ i. i)) edges) ≡ total edge_parts edges = edges_as_large (λ i. i) edges in
      let more : limit < total (key_parts key_entries) order + total edge_parts (map (edge_with (λ i. i)) edges) = beyond order (map (edge_with (λ i. i)) edges) moved in
      omega (arith, more, as_large)

  pub more_backward : IsBeyond (inverting product t two).problem limit → IsBeyond (inverting product t one).problem limit
  more_backward beyond order edges reached =
      let moved : IsReachedSet (inverse_image product t.rules two.rules) order (map (edge_with (λ i. i)) edges) =
      subst (λ (ms : List (TransducerRule ℕ)). IsReachedSet (inverse_image product ms two.rules) order (map (edge_with (λ i. i)) edges)) (moves_itself t.rules)
      (reached_alike (edge_with (λ i. i)) (inverse_image product t.rules one.rules) (inverse_image product (moves_with (λ i. i) t.rules) two.rules)
      (backward_alike product (λ i. i) (λ i j e. e) one.rules two.rules forms_reordered t.rules) order edges reached)
      in
      let as_large : total edge_parts (map (edge_with (λ i. i)) edges) ≡ total edge_parts edges = edges_as_large (λ i. i) edges in
      let more : limit < total (key_parts key_entries) order + total edge_parts (map (edge_with (λ i. i)) edges) = beyond order (map (edge_with (λ i. i)) edges) moved in
      omega (arith, more, as_large)
