-- The edge of a key and a rule, determined by the walk of the rule's left-hand side, and the rules
-- that may have one.
use Rattle.std.specs.Prelude.{◌≡◌, ℕ, ◌<◌, ◌+◌, nat_eq, true, List, [], ◌∷◌, length, map, refl, None, Some}
use Rattle.std.proofs.Common.{arith, ap, sym, ◌∙◌, subst, get_or}
use Rattle.tib_lex.specs.Lists.{Has, Each, Distinct}
use Rattle.tib_lex.proofs.Members.{has_at}
use Rattle.tib_lex.proofs.Booleans.{and-both, and-true}
use Rattle.tib_lex.proofs.Numbers.{nat_eq-true, nat_eq-itself}
use Rattle.tib_tree.specs.Trees.{Tree, Trees, none, tree, only, count, size, preorder_of}
use Rattle.tib_tree.specs.Filled.{nodes_of_tree}
use Rattle.tib_tree.specs.declared.preorder.Node.{Node}
use Rattle.tib_grammar.specs.Sides.{Symbol, label, hole, holes_of, HolesAreLeaves, side_map, is_label}
use Rattle.tib_grammar.specs.declared.Rule.{Rule}
use Rattle.tib_transducer.specs.Rules.{transducer_rule, no_rule, variables_in}
use Rattle.tib_transducer.specs.Range.{IsShaped, EndsInHoles}
use Rattle.tib_transducer.specs.declared.Pair.{Pair}
use Rattle.tib_transducer.specs.declared.Variable.{Variable}
use Rattle.tib_transducer.specs.declared.TransducerRule.{TransducerRule}
use Rattle.tib_image.specs.Nodes.{subtree, Match, nodes_of}
use Rattle.tib_image.specs.Image.{pair_key, IsImageEdge}
use Rattle.tib_key_edges.specs.Places.{positions_with}
use Rattle.tib_image.specs.Shapes.{has_shape}
use Rattle.tib_image.specs.Walk.{walk}
use Rattle.tib_key_edges.specs.Listing.{IsAdded}
use Rattle.tib_key_edges.proofs.Listed.{listed_passed, listed_added, overruns_next}
use Rattle.tib_image.specs.Listing.{Listing, ListsOrigin, OriginOverruns}
use Rattle.tib_image.proofs.Matching.{nodes_many}
use Rattle.tib_image.proofs.Walking.{match_many, found_match, found_nodes, no_match}
use Rattle.tib_key_edges.proofs.Places.{places_once, place_is, is_place}

each_mapped : {A : Type 0} (Q : ℕ → Type 0) (f : A → ℕ) (xs : List A) → Each Q (map f xs) → Each (λ x. Q (f x)) xs
each_mapped Q f [] h = tt
each_mapped Q f (x ∷ xs) h = (h.0, each_mapped Q f xs h.1)

each_to : {n m : ℕ} → n ≡ m → (xs : List ℕ) → Each (λ v. v < n) xs → Each (λ v. v < m) xs
each_to e [] f = tt
each_to e (v ∷ xs) f = (omega (arith, f.0), each_to e xs f.1)

-- a rule, whose left-hand side is walked at the node of the key
module _
    (moves : List (TransducerRule ℕ)) (t : Tree ℕ) (key : ℕ × ℕ) (m : ℕ) (below : m < length moves) (state : (transducer_rule moves m).state ≡ key.0) (inside : key.1 < size t)
    (shaped : IsShaped (transducer_rule moves m)) (leaves : EndsInHoles (transducer_rule moves m)) (r : TransducerRule ℕ) (is : r ≡ transducer_rule moves m) (nodes : List Node)
    (are : nodes ≡ nodes_of_tree t) (pairs : List (Symbol ℕ Variable × ℕ)) (items : pairs ≡ preorder_of r.left) where
  here : pairs ≡ preorder_of (transducer_rule moves m).left
  here = items ∙ ap (λ (x : TransducerRule ℕ). preorder_of x.left) is

  module _ (found : List ℕ) (w : walk pairs nodes key.1 ≡ Some found) where
    given : IsImageEdge moves t key m (record { left = key; right = side_map (pair_key found) r.right; cost = r.cost })
    given = record {
      below = below;
      state = state;
      matches = found_match t nodes are key.1 inside (transducer_rule moves m).left leaves.0 pairs here found w;
      left = refl;
      right = ap (λ ns. side_map (pair_key ns) r.right) (found_nodes t nodes are key.1 inside (transducer_rule moves m).left leaves.0 pairs here found w)
          ∙ ap (λ (x : TransducerRule ℕ). side_map (pair_key (nodes_of (transducer_rule moves m).left t key.1)) x.right) is;
      costs = ap (λ (x : TransducerRule ℕ). x.cost) is;
    }

    -- the variables of its right-hand side are among those found
    pub known : Each (λ x. x.variable < length found) (holes_of r.right)
    known =
        let long : length (holes_of (transducer_rule moves m).left) ≡ length found =
        sym (nodes_many (only (transducer_rule moves m).left) (only (subtree t key.1)) key.1 given.matches)
        ∙ ap length (sym (found_nodes t nodes are key.1 inside (transducer_rule moves m).left leaves.0 pairs here found w))
        in
        subst (λ (x : TransducerRule ℕ). Each (λ y. y.variable < length found) (holes_of x.right)) (sym is)
        (each_mapped (λ v. v < length found) (λ (y : Pair ℕ). y.variable) (holes_of (transducer_rule moves m).right) (each_to long (variables_in (transducer_rule moves m).right) shaped.known))

    -- its edge is listed
    pub added : (l n : Listing) → IsAdded r.right (map (pair_key found) (holes_of r.right)) r.cost l n → ListsOrigin (IsImageEdge moves t key) key m l n
    added l n a order within at tried fresh listed =
        listed_added (IsImageEdge moves t key) order tried m fresh key (pair_key found) r.right r.cost given (0, 0) l.position within at
        (subst (λ (x : TransducerRule ℕ). HolesAreLeaves (only x.right)) (sym is) leaves.1) l n refl a listed

    -- its edge is too much
    pub overruns : (l : Listing) → l.budget < l.parts + (1 + size r.right) → OriginOverruns (IsImageEdge moves t key) key m l
    overruns l much order within at tried fresh listed = overruns_next (IsImageEdge moves t key) order tried m fresh key (pair_key found) r.right r.cost given l much listed

  -- it has no edge
  pub passed : walk pairs nodes key.1 ≡ None → (l : Listing) → ListsOrigin (IsImageEdge moves t key) key m l l
  passed w l order within at tried fresh listed =
      listed_passed (IsImageEdge moves t key) order tried m l (λ e g. no_match t nodes are key.1 inside (transducer_rule moves m).left leaves.0 pairs here w g.matches) listed

-- a left-hand side that begins with a label matches trees with that label and as many children
root_match : (s : Symbol ℕ Variable) (kids : Trees (Symbol ℕ Variable)) (u : Tree ℕ) (root : ℕ) → s ≡ label root → Match (tree s kids none) (only u) → (s ≡ label u.label) × (count kids ≡ count u.kids)
root_match (label f) kids u root e m = (ap label m.0, match_many kids u.kids m.1)
root_match (hole x) kids u root e m = absurd (cc)

itself : (f : ℕ) (s : Symbol ℕ Variable) → s ≡ label f → is_label f s ≡ true
itself f s e = ap (is_label f) e ∙ nat_eq-itself f

-- the rules of the shape of a key, whose node has the label f and this many children
module _ (moves : List (TransducerRule ℕ)) (t : Tree ℕ) (key : ℕ × ℕ) (state f rank : ℕ) (same : state ≡ key.0) (label_is : f ≡ (subtree t key.1).label) (rank_is : rank ≡ count (subtree t key.1).kids)
    (ps : List ℕ) (is : ps ≡ positions_with has_shape (state, f, rank) moves) where
  -- each rule with an edge is one of them
  pub all_stand : ((m : ℕ) → m < length moves → IsShaped (transducer_rule moves m)) → (m : ℕ) (e : Rule (ℕ × ℕ)) → IsImageEdge moves t key m e → Has ps m
  all_stand shaped m e edge =
      let r : TransducerRule ℕ = transducer_rule moves m in
      let root = root_match r.left.label r.left.kids (subtree t key.1) (shaped m edge.below).begins.root (shaped m edge.below).begins.is_root edge.matches in
      let first : nat_eq r.state state ≡ true = ap (λ q. nat_eq q state) (edge.state ∙ sym same) ∙ nat_eq-itself state in
      let second : is_label f r.left.label ≡ true = itself f r.left.label (root.0 ∙ ap label (sym label_is)) in
      let third : nat_eq (count r.left.kids) rank ≡ true = ap (λ k. nat_eq k rank) (root.1 ∙ sym rank_is) ∙ nat_eq-itself rank in
      subst (λ qs. Has qs m) (sym is) (is_place (has_shape (state, f, rank)) moves m no_rule edge.below (and-both _ _ (and-both _ _ first second) third))

  -- each occurs once
  pub apart : Distinct ps
  apart = subst Distinct (sym is) (places_once (has_shape (state, f, rank)) moves no_rule)

  -- each is a rule of the state
  pub rule_here : (i m : ℕ) → i < length ps → m ≡ get_or ps i 0 → (m < length moves) × ((transducer_rule moves m).state ≡ key.0)
  rule_here i m low e =
      let has : Has ps m = subst (Has ps) (sym e) (has_at ps i 0 low) in
      let p = place_is (has_shape (state, f, rank)) moves m no_rule (subst (λ qs. Has qs m) is has) in
      (p.0, nat_eq-true (transducer_rule moves m).state state (and-true _ _ (and-true _ _ p.1).0).0 ∙ same)
