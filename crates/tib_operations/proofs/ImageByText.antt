-- What the image of a tree reaches does not depend on the numbers of labels.
use Rattle.std.proofs.Common.{◌≡◌, ℕ, ◌+◌, ◌<◌, List, ◌∷◌, ◌++◌, length, map, refl, sym, ap, ◌∙◌, subst, arith, get_or, suc, Option}
use Rattle.std.specs.Prelude.{Some, None, option_map}
use Rattle.std.proofs.lemmas.List.{length-map, map-append}
use Rattle.tib_lex.proofs.Places.{at_map}
use Rattle.tib_tree.specs.Trees.{Tree, Trees, none, tree, only, relabel, relabel_tree, sizes}
use Rattle.tib_grammar.specs.Sides.{Symbol, label, hole, Side as SideFor, side_map, symbol_map}
use Rattle.tib_grammar.specs.declared.Rule.{Rule}
use Rattle.tib_expand.specs.Reached.{IsReachedSet}
use Rattle.tib_key_edges.specs.Ends.{key_at}
use Rattle.tib_transducer.specs.Rules.{transducer_rule}
use Rattle.tib_transducer.specs.Run.{Binds}
use Rattle.tib_transducer.specs.declared.Variable.{Variable}
use Rattle.tib_transducer.specs.declared.Pair.{Pair}
use Rattle.tib_transducer.specs.declared.TransducerRule.{TransducerRule}
use Rattle.tib_image.specs.Image.{pair_key, image_of, IsImageEdge}
use Rattle.tib_image.specs.Nodes.{subtrees, subtree, Match, variable_nodes, nodes_of}
use Rattle.tib_canon.proofs.EdgesByText.{key_with, edge_with, holes_kept}
use Rattle.tib_canon.proofs.ReachedAlike.{AreProblemsAlike, reached_alike}
use Rattle.tib_canon.proofs.Relabelled.{left_with}
use Rattle.tib_operations.proofs.MovesByText.{moves_with, move_at}
use Rattle.tib_operations.proofs.Tables.{sizes_kept}
use Rattle.tib_operations.proofs.TransducerTables.{right_with, rule_with}

module _ (f : ℕ → ℕ) where
  -- the subtrees under other numbers
  subtrees_with : (ts : Trees ℕ) → subtrees (relabel f ts) ≡ map (relabel_tree f) (subtrees ts)
  subtrees_with none = refl
  subtrees_with (tree g kids rest) =
      ap (λ (xs : List (Tree ℕ)). record { label = f g; kids = relabel f kids } ∷ xs)
      (ap (λ (xs : List (Tree ℕ)). xs ++ subtrees (relabel f rest)) (subtrees_with kids) ∙ ap (λ (xs : List (Tree ℕ)). map (relabel_tree f) (subtrees kids) ++ xs) (subtrees_with rest)
      ∙ sym (map-append (relabel_tree f) (subtrees kids) (subtrees rest)))

  subtree_with : (t : Tree ℕ) (n : ℕ) → subtree (relabel_tree f t) n ≡ relabel_tree f (subtree t n)
  subtree_with t n = ap (λ (xs : List (Tree ℕ)). get_or xs n (relabel_tree f t)) (subtrees_with (only t)) ∙ at_map (relabel_tree f) (subtrees (only t)) n t

  -- what a variable binds, and what sides match

  binds_to : (o : Option ℕ) (g : ℕ) → Binds o g → Binds (option_map f o) (f g)
  binds_to None g b = tt
  binds_to (Some h) g b = ap f b

  match_to : (ss : Trees (Symbol ℕ Variable)) (us : Trees ℕ) → Match ss us → Match (relabel (left_with f) ss) (relabel f us)
  match_to none none m = tt
  match_to none (tree g us more) m = absurd m
  match_to (tree (label h) kids rest) none m = absurd m
  match_to (tree (hole x) kids rest) none m = absurd m
  match_to (tree (label h) kids rest) (tree g us more) m = (ap f m.0, match_to kids us m.1, match_to rest more m.2)
  match_to (tree (hole x) kids rest) (tree g us more) m = (binds_to x.label g m.0, match_to rest more m.1)

  nodes_with : (ss : Trees (Symbol ℕ Variable)) (us : Trees ℕ) (n : ℕ) → variable_nodes (relabel (left_with f) ss) (relabel f us) n ≡ variable_nodes ss us n
  nodes_with none us n = refl
  nodes_with (tree (label h) kids rest) none n = refl
  nodes_with (tree (hole x) kids rest) none n = refl
  nodes_with (tree (label h) kids rest) (tree g us more) n =
      ap (λ (ms : List ℕ). ms ++ variable_nodes (relabel (left_with f) rest) (relabel f more) (suc n + sizes (relabel f us))) (nodes_with kids us (suc n))
      ∙ ap (λ (k : ℕ). variable_nodes kids us (suc n) ++ variable_nodes (relabel (left_with f) rest) (relabel f more) (suc n + k)) (sizes_kept f us)
      ∙ ap (λ (ms : List ℕ). variable_nodes kids us (suc n) ++ ms) (nodes_with rest more (suc n + sizes us))
  nodes_with (tree (hole x) kids rest) (tree g us more) n =
      ap (λ (k : ℕ). n ∷ variable_nodes (relabel (left_with f) rest) (relabel f more) (suc n + k)) (sizes_kept f us)
      ∙ ap (λ (ms : List ℕ). n ∷ ms) (nodes_with rest more (suc n + sizes us))

  nodes_at : (left : SideFor ℕ Variable) (t : Tree ℕ) (n : ℕ) → nodes_of (relabel_tree (left_with f) left) (relabel_tree f t) n ≡ nodes_of left t n
  nodes_at left t n = ap (λ (u : Tree ℕ). variable_nodes (relabel (left_with f) (only left)) (only u) n) (subtree_with t n) ∙ nodes_with (only left) (only (subtree t n)) n

  symbol_keyed : {K : Type 0} (key : Pair ℕ → K) (s : Symbol ℕ (Pair ℕ)) → symbol_map {A = ℕ} key (right_with f s) ≡ key_with f (symbol_map key s)
  symbol_keyed key (label g) = refl
  symbol_keyed key (hole x) = refl

  trees_keyed : {K : Type 0} (key : Pair ℕ → K) (ts : Trees (Symbol ℕ (Pair ℕ))) → relabel (symbol_map {A = ℕ} key) (relabel (right_with f) ts) ≡ relabel (key_with f) (relabel (symbol_map key) ts)
  trees_keyed key none = refl
  trees_keyed {K} key (tree s kids rest) =
      ap (λ (x : Symbol ℕ K). tree x (relabel (symbol_map key) (relabel (right_with f) kids)) (relabel (symbol_map key) (relabel (right_with f) rest))) (symbol_keyed key s)
      ∙ ap (λ (x : Trees (Symbol ℕ K)). tree (key_with f (symbol_map key s)) x (relabel (symbol_map key) (relabel (right_with f) rest))) (trees_keyed key kids)
      ∙ ap (λ (x : Trees (Symbol ℕ K)). tree (key_with f (symbol_map key s)) (relabel (key_with f) (relabel (symbol_map key) kids)) x) (trees_keyed key rest)

  side_keyed : {K : Type 0} (key : Pair ℕ → K) (s : SideFor ℕ (Pair ℕ)) → side_map {A = ℕ} key (relabel_tree (right_with f) s) ≡ relabel_tree (key_with f) (side_map key s)
  side_keyed {K} key s =
      ap (λ (x : Symbol ℕ K). record { label = x; kids = relabel (symbol_map key) (relabel (right_with f) s.kids) }) (symbol_keyed key s.label)
      ∙ ap (λ (x : Trees (Symbol ℕ K)). record { label = key_with f (symbol_map key s.label); kids = x }) (trees_keyed key s.kids)

  module _ (apart : (i j : ℕ) → f i ≡ f j → i ≡ j) where
    binds_from : (o : Option ℕ) (g : ℕ) → Binds (option_map f o) (f g) → Binds o g
    binds_from None g b = tt
    binds_from (Some h) g b = apart h g b

    match_from : (ss : Trees (Symbol ℕ Variable)) (us : Trees ℕ) → Match (relabel (left_with f) ss) (relabel f us) → Match ss us
    match_from none none m = tt
    match_from none (tree g us more) m = absurd m
    match_from (tree (label h) kids rest) none m = absurd m
    match_from (tree (hole x) kids rest) none m = absurd m
    match_from (tree (label h) kids rest) (tree g us more) m = (apart h g m.0, match_from kids us m.1, match_from rest more m.2)
    match_from (tree (hole x) kids rest) (tree g us more) m = (binds_from x.label g m.0, match_from rest more m.1)

    module _ (moves : List (TransducerRule ℕ)) (t : Tree ℕ) where
      image_to : (key : ℕ × ℕ) (o : ℕ) (e : Rule (ℕ × ℕ)) → IsImageEdge moves t key o e → IsImageEdge (moves_with f moves) (relabel_tree f t) key o (edge_with f e)
      image_to key o e h =
          let r : TransducerRule ℕ = transducer_rule moves o in
          let a : transducer_rule (moves_with f moves) o ≡ rule_with f r = move_at f moves o h.below in
          record {
            below = omega (arith, h.below, length-map moves (rule_with f));
            state = ap (λ (x : TransducerRule ℕ). x.state) a ∙ h.state;
            matches = subst (λ (x : TransducerRule ℕ). Match (only x.left) (only (subtree (relabel_tree f t) key.1))) (sym a)
                (subst (λ (u : Tree ℕ). Match (relabel (left_with f) (only r.left)) (only u)) (sym (subtree_with t key.1)) (match_to (only r.left) (only (subtree t key.1)) h.matches));
            left = h.left;
            right =
                ap (relabel_tree (key_with f)) h.right ∙ sym (side_keyed (pair_key (nodes_of r.left t key.1)) r.right)
                ∙ sym (ap (λ (ns : List ℕ). side_map (pair_key ns) (relabel_tree (right_with f) r.right)) (nodes_at r.left t key.1))
                ∙ sym (ap (λ (x : TransducerRule ℕ). side_map (pair_key (nodes_of x.left (relabel_tree f t) key.1)) x.right) a);
            costs = h.costs ∙ sym (ap (λ (x : TransducerRule ℕ). x.cost) a);
          }

      image_from : (key : ℕ × ℕ) (o : ℕ) (e : Rule (ℕ × ℕ)) → IsImageEdge (moves_with f moves) (relabel_tree f t) key o e → (old : Rule (ℕ × ℕ)) × (e ≡ edge_with f old) × IsImageEdge moves t key o old
      image_from key o e h =
          let below : o < length moves = omega (arith, h.below, length-map moves (rule_with f)) in
          let r : TransducerRule ℕ = transducer_rule moves o in
          let a : transducer_rule (moves_with f moves) o ≡ rule_with f r = move_at f moves o below in
          let right : e.right ≡ relabel_tree (key_with f) (side_map (pair_key (nodes_of r.left t key.1)) r.right) =
          h.right ∙ ap (λ (x : TransducerRule ℕ). side_map (pair_key (nodes_of x.left (relabel_tree f t) key.1)) x.right) a
          ∙ ap (λ (ns : List ℕ). side_map (pair_key ns) (relabel_tree (right_with f) r.right)) (nodes_at r.left t key.1) ∙ side_keyed (pair_key (nodes_of r.left t key.1)) r.right
          in (
            record { left = e.left; right = side_map (pair_key (nodes_of r.left t key.1)) r.right; cost = e.cost },
            ap (λ (s : SideFor ℕ (ℕ × ℕ)). record { left = e.left; right = s; cost = e.cost }) right,
            record {
              below = below;
              state = sym (ap (λ (x : TransducerRule ℕ). x.state) a) ∙ h.state;
              matches = match_from (only r.left) (only (subtree t key.1))
                  (subst (λ (u : Tree ℕ). Match (relabel (left_with f) (only r.left)) (only u)) (subtree_with t key.1)
                  (subst (λ (x : TransducerRule ℕ). Match (only x.left) (only (subtree (relabel_tree f t) key.1))) a h.matches));
              left = h.left;
              right = refl;
              costs = h.costs ∙ ap (λ (x : TransducerRule ℕ). x.cost) a;
            },
          )

      image_alike : AreProblemsAlike (edge_with f) (image_of moves t) (image_of (moves_with f moves) (relabel_tree f t))
      image_alike = record {
        cmp = refl;
        seed_to = λ k h. h;
        seed_from = λ k h. h;
        seed_edges = record { to = λ o e h. h; from = λ o e h. absurd h };
        edges = λ order n. record { to = image_to (key_at order n); from = image_from (key_at order n) };
        ends = λ e. holes_kept f (only e.right);
      }

      -- what is reached under the other numbers
      pub image_given : (order : List (ℕ × ℕ)) (es : List (Rule (ℕ × ℕ))) → IsReachedSet (image_of moves t) order es → IsReachedSet (image_of (moves_with f moves) (relabel_tree f t)) order (map (edge_with f) es)
      image_given order es reached = reached_alike (edge_with f) (image_of moves t) (image_of (moves_with f moves) (relabel_tree f t)) image_alike order es reached
