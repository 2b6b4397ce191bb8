-- The reached set of the pairs as a grammar over the positions of its order.
use Rattle.std.specs.Prelude.{◌≡◌, ℕ, ◌<◌, ◌≤◌, List, [], ◌∷◌, length, map, zip, refl}
use Rattle.std.proofs.Common.{suc, arith, ap, sym, ◌∙◌, subst}
use Rattle.tib_tree.specs.Trees.{Trees, none, tree, relabel}
use Rattle.tib_grammar.specs.Sides.{Symbol, label, hole, holes, symbol_map, leaves}
use Rattle.tib_grammar.specs.Run.{rule_at, no_rule}
use Rattle.tib_grammar.specs.GrammarOf.{GrammarOf, named_rule}
use Rattle.tib_grammar.specs.declared.Rule.{Rule}
use Rattle.tib_expand.specs.Reached.{IsReachedSet, IsBeyond, parts_of}
use Rattle.tib_expand.specs.Reading.{AreBelow}
use Rattle.tib_expand.specs.Keys.{key_parts}
use Rattle.tib_key_edges.specs.Ends.{key_at as pair_at}
use Rattle.tib_intersect.specs.PairEdges.{IsPairEdge, edge_parts}
use Rattle.tib_intersect.specs.PairGrammar.{IsPairGrammar, GivesEdge}
use Rattle.tib_intersect.specs.Intersection.{intersection, HasRootOf}
use Rattle.tib_intersect.proofs.Intersecting.{label-relabel, firsts-zip}
use Rattle.tib_intersect.proofs.PairOrders.{order_once, order_begins}
use Rattle.tib_intersect.proofs.EdgesOver.{edges_below}
use Rattle.tib_lex.proofs.Places.{get_map}
use Rattle.tib_lex.proofs.Lists.{length_map}
use Rattle.tib_lex.proofs.Alongs.{along_at}
use Rattle.tib_grammar.specs.Positions.{positions_of}
use Rattle.tib_grammar.proofs.Positions.{rules_in_range}
use Rattle.tib_key_edges.proofs.Limits.{each_counts}

-- right-hand sides

leaves_back : {P Q : Type 0} (g : P → Q) (s : Trees (Symbol ℕ P)) (qs : List Q) → relabel (symbol_map g) s ≡ leaves qs → (s ≡ leaves (holes s)) × (length (holes s) ≡ length qs)
leaves_back g none [] e = (refl, refl)
leaves_back g none (q ∷ qs) e = absurd (cc)
leaves_back g (tree (label f) kids rest) [] e = absurd (cc)
leaves_back g (tree (label f) kids rest) (q ∷ qs) e = absurd (cc)
leaves_back g (tree (hole p) kids rest) [] e = absurd (cc)
leaves_back g (tree (hole p) none rest) (q ∷ qs) e =
    let r = leaves_back g rest qs (cc) in (ap (λ ts. tree (hole p) none ts) r.0, ap suc r.1)
leaves_back g (tree (hole p) (tree s kids more) rest) (q ∷ qs) e = absurd (cc)

module _ (product : ℕ → ℕ → ℕ) (one two : List (Rule ℕ)) where
  -- a rule that stands for an edge has its root over states
  root_of : (order : List (ℕ × ℕ)) (key o : ℕ × ℕ) (r : Rule ℕ) → IsPairEdge product one two key o (named_rule (pair_at order) r) → HasRootOf one r
  root_of order key o r e =
      let qs : List ℕ = holes (rule_at one o.0).right.kids in
      let rs : List ℕ = holes (rule_at two o.1).right.kids in
      let kids = leaves_back (pair_at order) r.right.kids (zip qs rs) (ap (λ s. s.kids) e.right) in
      let root : r.right.label ≡ label e.root = label-relabel (pair_at order) r.right.label e.root (ap (λ s. s.label) e.right) in
      let as_many : length (zip qs rs) ≡ length qs = sym (length_map (λ x. x.0) (zip qs rs)) ∙ ap length (firsts-zip qs rs e.rank) in
      record {
        position = o.0;
        below = e.first;
        root = e.root;
        is_root = e.first_root;
        states = holes r.right.kids;
        rank = kids.1 ∙ as_many;
        right = ap (λ s. record { label = s; kids = r.right.kids }) root ∙ ap (λ ts. record { label = label e.root; kids = ts }) kids.0;
      }

  module _ (order : List (ℕ × ℕ)) (rules : List (Rule ℕ)) (reached : IsReachedSet (intersection product one two) order (map (named_rule (pair_at order)) rules)) where
    -- the rules are the grammar of the pairs
    pub pair_grammar : AreBelow positions_of (length order) rules → IsPairGrammar product one two order rules
    pair_grammar below =
        let begins = order_begins product one two reached.0.0 reached.0.1 order reached.0.2 in
        record {
          long = omega (arith, ap length begins.1);
          start = ap (λ (l : List (ℕ × ℕ)). pair_at l 0) begins.1;
          once = order_once product one two reached.0.0 reached.0.1 order reached.0.2;
          in_range = rules_in_range (length order) rules below;
          edges = edges_below product one two order (length order) (map (named_rule (pair_at order)) rules) reached.1;
        }

    -- each rule has the root of a rule of the first grammar
    pub roots : (m : ℕ) → m < length rules → HasRootOf one (rule_at rules m)
    roots m h =
        let spare : Rule (ℕ × ℕ) = named_rule (pair_at order) no_rule in
        let edges = edges_below product one two order (length order) (map (named_rule (pair_at order)) rules) reached.1 in
        let a = along_at (GivesEdge product one two order) edges.origins (map (named_rule (pair_at order)) rules) m spare edges.given (omega (arith, h, length_map (named_rule (pair_at order)) rules)) in
        let g : GivesEdge product one two order a.0 (named_rule (pair_at order) (rule_at rules m)) = subst (GivesEdge product one two order a.0) (get_map (named_rule (pair_at order)) rules m spare no_rule h) a.1 in
        root_of order (pair_at order a.0.0) a.0.1 (rule_at rules m) g.1

-- parts

module _ (product : ℕ → ℕ → ℕ) (one two : List (Rule ℕ)) (order : List (ℕ × ℕ)) (rules : List (Rule ℕ)) (parts limit : ℕ)
    (counted : parts ≡ parts_of (intersection product one two) order (map (named_rule (pair_at order)) rules)) (within : parts ≤ limit) where
  -- there are no more pairs than the limit
  pub few_pairs : length order ≤ limit
  few_pairs = omega (arith, each_counts (key_parts (λ k. 2)) (λ k. omega arith) order, counted, within)

  -- there are no more rules than the limit
  pub few_rules : length rules ≤ limit
  few_rules = omega (arith, each_counts edge_parts (λ e. omega arith) (map (named_rule (pair_at order)) rules), length_map (named_rule (pair_at order)) rules, counted, within)

-- the same grammars under other names

module _ (product : ℕ → ℕ → ℕ) (near far left right : GrammarOf) (same_left : near ≡ left) (same_right : far ≡ right) where
  -- the reached set of the grammars that were asked for
  pub reached_of : (order : List (ℕ × ℕ)) (es : List (Rule (ℕ × ℕ))) → IsReachedSet (intersection product near.rules far.rules) order es → IsReachedSet (intersection product left.rules right.rules) order es
  reached_of order es h =
      subst (λ (x : GrammarOf). IsReachedSet (intersection product left.rules x.rules) order es) same_right (subst (λ (x : GrammarOf). IsReachedSet (intersection product x.rules far.rules) order es) same_left h)

  -- the same for what is too large
  pub beyond_of : (limit : ℕ) → IsBeyond (intersection product near.rules far.rules) limit → IsBeyond (intersection product left.rules right.rules) limit
  beyond_of limit h =
      subst (λ (x : GrammarOf). IsBeyond (intersection product left.rules x.rules) limit) same_right (subst (λ (x : GrammarOf). IsBeyond (intersection product x.rules far.rules) limit) same_left h)
