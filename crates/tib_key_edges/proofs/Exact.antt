-- The rules of the composite transducer are edges, and each edge is a rule.
use Rattle.std.specs.Prelude.{◌≡◌, ℕ, ◌<◌, List, length, map, Option}
use Rattle.std.proofs.Common.{arith, ap, sym, ◌∙◌, subst}
use Rattle.std.proofs.lemmas.List.{length-map, get_or-map}
use Rattle.tib_lex.specs.Lists.{Has}
use Rattle.tib_lex.specs.PairOrder.{pair_cmp}
use Rattle.tib_lex.proofs.Alongs.{along_at, along_has}
use Rattle.tib_lex.proofs.Places.{distinct_at}
use Rattle.tib_lex.proofs.PairOrder.{pair_total}
use Rattle.tib_tree.specs.Trees.{Trees, only}
use Rattle.tib_expand.specs.Reached.{IsReachedSet}
use Rattle.tib_expand.specs.Keys.{key_parts}
use Rattle.tib_expand.proofs.Reaching.{Laws}
use Rattle.tib_key_edges.specs.Ends.{key_at}
use Rattle.tib_transducer.specs.Rules.{transducer_rule, no_rule}
use Rattle.tib_key_edges.specs.Named.{named_transducer_rule}
use Rattle.tib_transducer.specs.Range.{AreWithin}
use Rattle.tib_key_edges.specs.Composing.{IsComposeEdge, GivesEdge, IsComposite}
use Rattle.tib_key_edges.specs.Composition.{ends_of, edge_parts, composition}
use Rattle.tib_transducer.specs.declared.TransducerRule.{TransducerRule}
use Rattle.tib_key_edges.proofs.KeyOrders.{op_laws, one_set, order_once, order_begins, edges_below}

module _ (product : ℕ → ℕ → ℕ) (one two : List (TransducerRule ℕ)) where
  -- an origin gives one edge of a key
  pub same_edge : (key : ℕ × ℕ) (o : ℕ × Trees (Option ℕ)) (e f : TransducerRule (ℕ × ℕ)) → IsComposeEdge product one two key o e → IsComposeEdge product one two key o f → e ≡ f
  same_edge key o e f a b =
      let right : only e.right ≡ only f.right = a.right ∙ sym b.right in
      let labels : e.right.label ≡ f.right.label = cc right in
      let kids : e.right.kids ≡ f.right.kids = cc right in
      ap (λ z. record { state = z; left = e.left; right = e.right; cost = e.cost }) (a.state ∙ sym b.state)
      ∙ ap (λ z. record { state = f.state; left = z; right = e.right; cost = e.cost }) (a.left ∙ sym b.left)
      ∙ ap (λ z. record { state = f.state; left = f.left; right = record { label = z; kids = e.right.kids }; cost = e.cost }) labels
      ∙ ap (λ z. record { state = f.state; left = f.left; right = record { label = f.right.label; kids = z }; cost = e.cost }) kids
      ∙ ap (λ z. record { state = f.state; left = f.left; right = f.right; cost = z }) (a.costs ∙ sym b.costs)

  -- what a hunt requires of its operation
  pub composition_laws : Laws (composition product one two)
  composition_laws = op_laws pair_cmp (0, 0) (IsComposeEdge product one two) ends_of (key_parts (λ k. 2)) edge_parts pair_total same_edge

  -- two reached sets have the same pairs and edges
  pub one_reached : (order other : List (ℕ × ℕ)) (es fs : List (TransducerRule (ℕ × ℕ))) → IsReachedSet (composition product one two) order es → IsReachedSet (composition product one two) other fs → (order ≡ other) × ((e : TransducerRule (ℕ × ℕ)) → Has es e → Has fs e)
  one_reached order other es fs h k = one_set pair_cmp (0, 0) (IsComposeEdge product one two) ends_of (key_parts (λ k. 2)) edge_parts pair_total same_edge order other es fs h k

  -- each rule is an edge of its pair, and each edge a rule
  pub record IsExact (order : List (ℕ × ℕ)) (rules : List (TransducerRule ℕ)) : Type 0 where
    pub sound :
        (j : ℕ) → j < length rules →
        (o : ℕ × Trees (Option ℕ))
        × IsComposeEdge product one two (key_at order (transducer_rule rules j).state) o (named_transducer_rule (key_at order) (transducer_rule rules j))
    pub complete :
        (k : ℕ) (o : ℕ × Trees (Option ℕ)) (e : TransducerRule (ℕ × ℕ)) → k < length order → IsComposeEdge product one two (key_at order k) o e →
        (j : ℕ) × (j < length rules) × ((transducer_rule rules j).state ≡ k) × (named_transducer_rule (key_at order) (transducer_rule rules j) ≡ e)

  -- so it is for the composite transducer
  pub exact : (order : List (ℕ × ℕ)) (rules : List (TransducerRule ℕ)) → IsComposite product one two order rules → IsExact order rules
  exact order rules found = record {
    sound = λ j h.
        let a = along_at (GivesEdge product one two order) found.edges.origins edges j spare found.edges.given (omega (arith, h, length-map rules named)) in
        let g : GivesEdge product one two order a.0 (named (transducer_rule rules j)) = subst (GivesEdge product one two order a.0) (get_or-map named rules j no_rule spare h) a.1 in
        (a.0.1, subst (λ k. IsComposeEdge product one two k a.0.1 (named (transducer_rule rules j))) (sym g.1.state) g.1);
    complete = λ k o e h edge.
        let has : Has found.edges.origins (k, o) = found.edges.whole (k, o) e (h, edge) in
        let a = along_has (GivesEdge product one two order) found.edges.origins edges (k, o) spare found.edges.given has in
        let below : a.0 < length rules = omega (arith, a.1, length-map rules named) in
        let g : GivesEdge product one two order (k, o) (named (transducer_rule rules a.0)) = subst (GivesEdge product one two order (k, o)) (get_or-map named rules a.0 no_rule spare below) a.2 in (
          a.0,
          below,
          distinct_at order (transducer_rule rules a.0).state k (0, 0) found.once (found.in_range a.0 below).0 h g.1.state,
          same_edge (key_at order k) o (named (transducer_rule rules a.0)) e g.1 edge,
        );
  }
    where
      named : TransducerRule ℕ → TransducerRule (ℕ × ℕ)
      named r = named_transducer_rule (key_at order) r

      edges : List (TransducerRule (ℕ × ℕ))
      edges = map (named_transducer_rule (key_at order)) rules

      spare : TransducerRule (ℕ × ℕ)
      spare = named_transducer_rule (key_at order) no_rule

  -- the reached set as the composite transducer
  pub reached_is_composite : (order : List (ℕ × ℕ)) (rules : List (TransducerRule ℕ)) → IsReachedSet (composition product one two) order (map (named_transducer_rule (key_at order)) rules) → AreWithin (length order) rules → IsComposite product one two order rules
  reached_is_composite order rules reached within =
      let begins = order_begins pair_cmp (0, 0) (IsComposeEdge product one two) ends_of (key_parts (λ k. 2)) edge_parts pair_total reached.0.0 reached.0.1 order reached.0.2 in
      record {
        long = omega (arith, ap length begins.1);
        start = ap (λ (l : List (ℕ × ℕ)). key_at l 0) begins.1;
        once = order_once pair_cmp (0, 0) (IsComposeEdge product one two) ends_of (key_parts (λ k. 2)) edge_parts pair_total reached.0.0 reached.0.1 order reached.0.2;
        in_range = within;
        edges = edges_below pair_cmp (0, 0) (IsComposeEdge product one two) ends_of (key_parts (λ k. 2)) edge_parts order (length order) (map (named_transducer_rule (key_at order)) rules) reached.1;
      }
