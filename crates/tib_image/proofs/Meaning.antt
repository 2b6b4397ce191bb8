-- The grammar of the keys has the series of the transducer at the tree.
use Rattle.std.specs.Prelude.{◌≡◌, ℕ, ◌<◌, ◌↔◌, List, [], ◌∷◌, length, map, refl, Option}
use Rattle.std.proofs.Common.{arith, ap, sym, ◌∙◌, subst, get_or}
use Rattle.tib_lex.specs.Lists.{Each}
use Rattle.tib_tree.specs.Trees.{Tree, Trees, none, tree, only, join, size}
use Rattle.tib_grammar.specs.Sides.{holes_of, fill, side_map}
use Rattle.tib_grammar.specs.Run.{rule_at, AreRuns, yields, cost, IsCost}
use Rattle.tib_grammar.specs.Range.{AllBelow}
use Rattle.tib_grammar.specs.Series.{IsSeries}
use Rattle.tib_grammar.specs.GrammarOf.{named_rule}
use Rattle.tib_grammar.specs.declared.Rule.{Rule}
use Rattle.tib_grammar.proofs.Sides.{holes-relabel, fill-relabel}
use Rattle.tib_cost.proofs.Least.{IsLeast-same}
use Rattle.tib_lex.proofs.Lists.{map_twice}
use Rattle.tib_key_edges.specs.Ends.{key_at}
use Rattle.tib_transducer.specs.Rules.{transducer_rule, variables_of, states_in, variables_in}
use Rattle.tib_transducer.specs.Range.{AreShaped}
use Rattle.tib_transducer.specs.Run.{AreTransducerRuns, Reads, outputs, transducer_cost, pick}
use Rattle.tib_transducer.specs.Series.{IsTransducerCost, IsTransducerSeries}
use Rattle.tib_transducer.specs.declared.Pair.{Pair}
use Rattle.tib_transducer.specs.declared.TransducerRule.{TransducerRule}
use Rattle.tib_image.specs.Nodes.{subtree, nodes_of}
use Rattle.tib_image.specs.Laws.{node_below}
use Rattle.tib_image.specs.Image.{pair_key, IsImageEdge, IsImageGrammar}
use Rattle.tib_image.specs.Standing.{stands, nodes_within}
use Rattle.tib_image.proofs.Matching.{trees_at, nodes_many, match_fills, given_match, picked}
use Rattle.tib_image.proofs.Reaching.{edge_of, rule_of}

each_to : {n m : ℕ} → n ≡ m → (vs : List ℕ) → Each (λ v. v < n) vs → Each (λ v. v < m) vs
each_to e [] f = tt
each_to e (v ∷ vs) f = (omega (arith, f.0), each_to e vs f.1)

each_map : {A B : Type 0} (P : B → Type 0) (g : A → B) (xs : List A) → Each P (map g xs) → Each (λ x. P (g x)) xs
each_map P g [] e = tt
each_map P g (x ∷ xs) e = (e.0, each_map P g xs e.1)

map_each : {A B : Type 0} (P : B → Type 0) (g : A → B) (xs : List A) → Each (λ x. P (g x)) xs → Each P (map g xs)
map_each P g [] e = tt
map_each P g (x ∷ xs) e = (e.0, map_each P g xs e.1)

each_all : {A : Type 0} (P : A → Type 0) (xs : List A) → ((x : A) → P x) → Each P xs
each_all P [] f = tt
each_all P (x ∷ xs) f = (f x, each_all P xs f)

module _ (moves : List (TransducerRule ℕ)) (shaped : AreShaped moves) (t : Tree ℕ) (order : List (ℕ × ℕ)) (rules : List (Rule ℕ)) (found : IsImageGrammar moves t order rules) where
  abbrev state : ℕ → ℕ
  state k = (key_at order k).0

  abbrev node : ℕ → ℕ
  node k = (key_at order k).1

  abbrev InTree : ℕ → Type 0
  InTree k = node k < size t

  -- what an edge of the key at a position in the tree says of a rule that stands for it
  record IsLed (k m j : ℕ) : Type 0 where
    states : map state (holes_of (rule_at rules j).right) ≡ states_in (transducer_rule moves m).right
    trees : trees_at t (map node (holes_of (rule_at rules j).right)) ≡ pick (trees_at t (nodes_of (transducer_rule moves m).left t (node k))) (variables_in (transducer_rule moves m).right)
    within : Each InTree (holes_of (rule_at rules j).right)
    fills : (ts : Trees ℕ) → fill (only (rule_at rules j).right) ts ≡ fill (only (transducer_rule moves m).right) ts

  led : (k m j : ℕ) → InTree k → IsImageEdge moves t (key_at order k) m (named_rule (key_at order) (rule_at rules j)) → IsLed k m j
  led k m j inside e =
      let r : TransducerRule ℕ = transducer_rule moves m in
      let ns : List ℕ = nodes_of r.left t (node k) in
      let hs : List ℕ = holes_of (rule_at rules j).right in
      let ps : List (Pair ℕ) = holes_of r.right in
      let keys : map (key_at order) hs ≡ map (pair_key ns) ps =
      sym (holes-relabel (key_at order) (only (rule_at rules j).right)) ∙ ap (λ s. holes_of s) e.right ∙ holes-relabel (pair_key ns) (only r.right)
      in
      let nodes : map node hs ≡ map (λ v. get_or ns v 0) (variables_in r.right) =
      sym (map_twice (λ (q : ℕ × ℕ). q.1) (key_at order) hs) ∙ ap (map (λ (q : ℕ × ℕ). q.1)) keys ∙ map_twice (λ (q : ℕ × ℕ). q.1) (pair_key ns) ps ∙ sym (map_twice (λ v. get_or ns v 0) (λ (x : Pair ℕ). x.variable) ps)
      in
      let long : length (variables_of r.left) ≡ length ns = sym (nodes_many (only r.left) (only (subtree t (node k))) (node k) e.matches) in
      let some : 0 < size t = omega arith in
      let low : Each (λ n. n < size t) ns = nodes_within t (only r.left) (only (subtree t (node k))) (node k) (stands t (node k) inside) in
      record {
        states = sym (map_twice (λ (q : ℕ × ℕ). q.0) (key_at order) hs) ∙ ap (map (λ (q : ℕ × ℕ). q.0)) keys ∙ map_twice (λ (q : ℕ × ℕ). q.0) (pair_key ns) ps;
        trees = ap (trees_at t) nodes ∙ picked t ns (variables_in r.right) (each_to long (variables_in r.right) (shaped m e.below).known);
        within = each_map (λ n. n < size t) node hs
            (subst (Each (λ n. n < size t)) (sym nodes) (map_each (λ n. n < size t) (λ v. get_or ns v 0) (variables_in r.right) (each_all (λ v. get_or ns v 0 < size t) (variables_in r.right) (λ v. node_below (size t) ns v some low))));
        fills = λ ts. sym (fill-relabel (key_at order) (only (rule_at rules j).right) ts) ∙ ap (λ s. fill (only s) ts) e.right ∙ fill-relabel (pair_key ns) (only r.right) ts;
      }

  module _ (product : ℕ → ℕ → ℕ) where
    -- runs of the transducer that put out what runs of the grammar yield
    record HasMoves (ks : List ℕ) (us : Trees ℕ) (c : ℕ) : Type 0 where
      runs : Trees ℕ
      are_runs : AreTransducerRuns moves (map state ks) runs
      reads : Reads moves runs (trees_at t (map node ks))
      output : outputs moves runs ≡ us
      costs : transducer_cost product moves runs ≡ c

    project : (runs : Trees ℕ) (ks : List ℕ) → AreRuns rules ks runs → Each InTree ks → HasMoves ks (yields rules runs) (cost product rules runs)
    project none [] a w = record { runs = none; are_runs = tt; reads = tt; output = refl; costs = refl }
    project none (k ∷ ks) a w = absurd a
    project (tree j runs rest) [] a w = absurd a
    project (tree j runs rest) (k ∷ ks) a w =
        let s = edge_of moves t order rules found j a.0 in
        let m : ℕ = s.0 in
        let r : TransducerRule ℕ = transducer_rule moves m in
        let e : IsImageEdge moves t (key_at order k) m (named_rule (key_at order) (rule_at rules j)) = subst (λ q. IsImageEdge moves t (key_at order q) m (named_rule (key_at order) (rule_at rules j))) a.1 s.1 in
        let l = led k m j w.0 e in
        let ns : List ℕ = nodes_of r.left t (node k) in
        let below = project runs (holes_of (rule_at rules j).right) a.2 l.within in
        let beside = project rest ks a.3 w.1 in
        let filled = match_fills t (only r.left) (only (subtree t (node k))) (node k) (stands t (node k) w.0) e.matches in
        record {
          runs = tree m below.runs beside.runs;
          are_runs = (e.below, e.state, subst (λ ps. AreTransducerRuns moves ps below.runs) l.states below.are_runs, beside.are_runs);
          reads = (
            record { args = trees_at t ns; bound = filled.0; filled = filled.1; below = subst (Reads moves below.runs) l.trees below.reads },
            beside.reads,
          );
          output = ap (λ ts. join (fill (only r.right) ts) (outputs moves beside.runs)) below.output
              ∙ ap (λ ts. join ts (outputs moves beside.runs)) (sym (l.fills (yields rules runs)))
              ∙ ap (join (fill (only (rule_at rules j).right) (yields rules runs))) beside.output;
          costs = ap (λ z. product (product z (transducer_cost product moves below.runs)) (transducer_cost product moves beside.runs)) (sym e.costs)
              ∙ ap (λ z. product (product (rule_at rules j).cost z) (transducer_cost product moves beside.runs)) below.costs
              ∙ ap (product (product (rule_at rules j).cost (cost product rules runs))) beside.costs;
        }

    pair_up :
        (runs : Trees ℕ) (ks : List ℕ) → AllBelow (length order) ks → Each InTree ks → AreTransducerRuns moves (map state ks) runs → Reads moves runs (trees_at t (map node ks)) →
        IsCost product rules ks (outputs moves runs) (transducer_cost product moves runs)
    pair_up none [] b w a d = record { runs = none; are_runs = tt; yielded = refl; costs = refl }
    pair_up none (k ∷ ks) b w a d = absurd a
    pair_up (tree m runs rest) [] b w a d = absurd a
    pair_up (tree m runs rest) (k ∷ ks) b w a d =
        let r : TransducerRule ℕ = transducer_rule moves m in
        let fits = d.0 in
        let ns : List ℕ = nodes_of r.left t (node k) in
        let given = given_match t (only r.left) fits.args (only (subtree t (node k))) (node k) fits.bound fits.filled (stands t (node k) w.0) in
        let edge : Rule (ℕ × ℕ) = record { left = key_at order k; right = side_map (pair_key ns) r.right; cost = r.cost } in
        let h = rule_of moves t order rules found k m edge b.0 (record { below = a.0; state = a.1; matches = given.0; left = refl; right = refl; costs = refl }) in
        let j : ℕ = h.position in
        let l = led k m j w.0 h.edge in
        let trees : pick fits.args (variables_in r.right) ≡ trees_at t (map node (holes_of (rule_at rules j).right)) = ap (λ ts. pick ts (variables_in r.right)) (sym given.1) ∙ sym l.trees in
        let below = pair_up runs (holes_of (rule_at rules j).right) (found.in_range j h.below).1 l.within (subst (λ ps. AreTransducerRuns moves ps runs) (sym l.states) a.2) (subst (Reads moves runs) trees fits.below) in
        let beside = pair_up rest ks b.1 w.1 a.3 d.1 in
        record {
          runs = tree j below.runs beside.runs;
          are_runs = (h.below, h.left, below.are_runs, beside.are_runs);
          yielded = ap (λ ts. join (fill (only (rule_at rules j).right) ts) (yields rules beside.runs)) below.yielded
              ∙ ap (λ ts. join ts (yields rules beside.runs)) (l.fills (outputs moves runs))
              ∙ ap (join (fill (only r.right) (outputs moves runs))) beside.yielded;
          costs = ap (λ z. product (product z (cost product rules below.runs)) (cost product rules beside.runs)) h.edge.costs
              ∙ ap (λ z. product (product r.cost z) (cost product rules beside.runs)) below.costs
              ∙ ap (product (product r.cost (transducer_cost product moves runs))) beside.costs;
        }

    root_in : InTree 0
    root_in = subst (λ (q : ℕ × ℕ). q.1 < size t) (sym found.start) (omega arith)

    to : (u : Tree ℕ) (c : ℕ) → IsCost product rules (0 ∷ []) (only u) c → IsTransducerCost product moves (0 ∷ []) (only t) (only u) c
    to u c h =
        let p = project h.runs (0 ∷ []) h.are_runs (root_in, tt) in
        record {
          runs = p.runs;
          are_runs = subst (λ (q : ℕ × ℕ). AreTransducerRuns moves (q.0 ∷ []) p.runs) found.start p.are_runs;
          reads = subst (λ (q : ℕ × ℕ). Reads moves p.runs (trees_at t (q.1 ∷ []))) found.start p.reads;
          output = p.output ∙ h.yielded;
          costs = p.costs ∙ h.costs;
        }

    from : (u : Tree ℕ) (c : ℕ) → IsTransducerCost product moves (0 ∷ []) (only t) (only u) c → IsCost product rules (0 ∷ []) (only u) c
    from u c h =
        let start : (0, 0) ≡ key_at order 0 = sym found.start in
        let x =
        pair_up h.runs (0 ∷ []) (found.long, tt) (root_in, tt) (subst (λ (q : ℕ × ℕ). AreTransducerRuns moves (q.0 ∷ []) h.runs) start h.are_runs) (subst (λ (q : ℕ × ℕ). Reads moves h.runs (trees_at t (q.1 ∷ []))) start h.reads)
        in
        record { runs = x.runs; are_runs = x.are_runs; yielded = x.yielded ∙ h.output; costs = x.costs ∙ h.costs }

    -- both have the same costs
    pub image_series : (u : Tree ℕ) (v : Option ℕ) → IsSeries product rules u v ↔ IsTransducerSeries product moves t u v
    image_series u v = (λ h. IsLeast-same (to u) (from u) h, λ h. IsLeast-same (from u) (to u) h)
