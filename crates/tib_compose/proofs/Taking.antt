-- One piece after another is taken from a branch.
use Rattle.std.specs.Prelude.{◌≡◌, ℕ, ◌+◌, ◌<◌, List, [], ◌∷◌, ◌++◌, map, length, reverse, drop, refl}
use Rattle.std.proofs.Common.{zero, suc, arith, ap, sym, ◌∙◌, get_or}
use Rattle.std.proofs.lemmas.List.{drop_more, get_or-map, map-append, length-map, reverse-append}
use Rattle.tib_tree.specs.Trees.{Trees, none, tree, parse, first_of, first_trees, other_trees}
use Rattle.tib_transducer.specs.Run.{tree_at}
use Rattle.tib_grammar.specs.Sides.{Symbol, label}
use Rattle.tib_grammar.specs.Items.{pairs_of, pair_of}
use Rattle.tib_grammar.specs.declared.Item.{Item}
use Rattle.tib_grammar.specs.declared.Item.TheVariants.{Label, Hole}
use Rattle.tib_transducer.specs.declared.Pair.{Pair}
use Rattle.tib_transducer.specs.declared.TransducerRule.{TransducerRule}
use Rattle.tib_key_edges.specs.Pieces.{Piece as PieceOf, put, read, pieces_of, results, results_by, GoesByPieces}
use Rattle.tib_compose.specs.declared.pending.Piece.{Piece}
use Rattle.tib_compose.specs.declared.pending.Piece.TheVariants.{Read}
use Rattle.tib_compose.specs.PieceViews.{side_there, kids_there, piece_of, piece_below, IsKnown, AreKnown}
use Rattle.tib_compose.specs.Ends.{IsSkipped, AreEnds}

-- the side at a node, by its item
pub side_by_item :
    (items : List (Item (Pair ℕ))) (i : ℕ) (x d : Item (Pair ℕ)) → i < length items → x ≡ get_or items i d →
    side_there (pairs_of items) i ≡ record { label = (pair_of x).0; kids = first_trees (pair_of x).1 (parse (drop (i + 1) (pairs_of items))) }
side_by_item items i x d h e =
    let low : i < length (pairs_of items) = omega (arith, h, length-map items pair_of) in
    let at : get_or (pairs_of items) i (pair_of d) ≡ pair_of x = get_or-map pair_of items i d (pair_of d) h ∙ ap pair_of (sym e) in
    ap (λ xs. first_of (label 0) (parse xs)) (drop_more (pairs_of items) i (pair_of d) low)
    ∙ ap (λ (y : Symbol ℕ (Pair ℕ) × ℕ). record { label = y.0; kids = first_trees y.1 (parse (drop (i + 1) (pairs_of items))) }) at

-- one more item is one more of its preorder
pub pairs_more : {P : Type 0} (items new : List (Item P)) (x : Item P) → new ≡ items ++ x ∷ [] → pairs_of new ≡ pairs_of items ++ pair_of x ∷ []
pairs_more items new x e = ap pairs_of e ∙ map-append pair_of items (x ∷ [])

module _ (product : ℕ → ℕ → ℕ) (two : List (TransducerRule ℕ)) (goes : GoesByPieces product two) (items : List (Item (Pair ℕ))) (cost : ℕ) (ws : List PieceOf) where
  -- a label is put out
  pub put_taken : (done new : List (Item (Pair (ℕ × ℕ)))) (f n : ℕ) → new ≡ done ++ Label f n ∷ [] → results product two cost (pairs_of done) (put f n ∷ ws) ≡ results product two cost (pairs_of new) ws
  put_taken done new f n e = goes.at_put cost (pairs_of done) f n ws ∙ ap (λ d. results product two cost d ws) (sym (pairs_more done new (Label f n) e))

  -- a pair is put out
  pub pair_taken :
      (done new : List (Item (Pair (ℕ × ℕ)))) (i p : ℕ) (x : Pair ℕ) (d : Item (Pair ℕ)) → i < length items → Hole x ≡ get_or items i d →
      new ≡ done ++ Hole (record { state = (x.state, p); variable = x.variable }) ∷ [] →
      results product two cost (pairs_of done) (read (side_there (pairs_of items) i) p ∷ ws) ≡ results product two cost (pairs_of new) ws
  pair_taken done new i p x d h at e =
      ap (λ s. results product two cost (pairs_of done) (read s p ∷ ws)) (side_by_item items i (Hole x) d h at)
      ∙ goes.at_pair cost (pairs_of done) x (first_trees 0 (parse (drop (i + 1) (pairs_of items)))) p ws
      ∙ ap (λ z. results product two cost z ws) (sym (pairs_more done new (Hole (record { state = (x.state, p); variable = x.variable })) e))

  -- a label is to be read
  pub label_taken :
      (done : List (Item (Pair (ℕ × ℕ)))) (i p f n : ℕ) (d : Item (Pair ℕ)) → i < length items → Label f n ≡ get_or items i d →
      (kids : Trees (Symbol ℕ (Pair ℕ))) → kids ≡ kids_there (pairs_of items) i n →
      results product two cost (pairs_of done) (read (side_there (pairs_of items) i) p ∷ ws) ≡ results_by product two cost (pairs_of done) f kids p ws (length two)
  label_taken done i p f n d h at kids same =
      ap (λ s. results product two cost (pairs_of done) (read s p ∷ ws)) (side_by_item items i (Label f n) d h at)
      ∙ goes.at_label cost (pairs_of done) f (kids_there (pairs_of items) i n) p ws
      ∙ ap (λ k. results_by product two cost (pairs_of done) f k p ws (length two)) (sym same)

-- the kids of a node

kid_there : {A : Type 0} (d : A) (ts : Trees A) (rank v : ℕ) → v < rank → first_of d (tree_at (first_trees rank ts) v) ≡ first_of d (other_trees v ts)
kid_there d ts zero v h = absurd (omega arith)
kid_there d none (suc rank) zero h = refl
kid_there d none (suc rank) (suc v) h = refl
kid_there d (tree f kids rest) (suc rank) zero h = refl
kid_there d (tree f kids rest) (suc rank) (suc v) h = kid_there d rest rank v (omega arith)

-- a variable stands for a child of the node
pub hole_below :
    (pairs : List (Symbol ℕ (Pair ℕ) × ℕ)) (ends : List ℕ) (node to : ℕ) (x : Pair ℕ) → IsSkipped pairs (node + 1) x.variable to → piece_of pairs (Read to x.state) ≡ piece_below pairs node (Hole x)
hole_below pairs ends node to x s = ap (λ ts. read (first_of (label 0) ts) x.state) s.1

-- ends that are known from the first place on are known from each
pub ends_from : (pairs : List (Symbol ℕ (Pair ℕ) × ℕ)) (ends : List ℕ) (from : ℕ) → AreEnds pairs ends 0 → AreEnds pairs ends from
ends_from pairs ends from known j h low = known j (omega arith) low

-- the piece of an item is the first of the pieces from there on
piece_known :
    (pairs : List (Symbol ℕ (Pair ℕ) × ℕ)) (node rank : ℕ) (x : Item (Pair ℕ)) (xs : List (Symbol ℕ (Pair ℕ) × ℕ)) → IsKnown rank x →
    piece_below pairs node x ∷ pieces_of xs (kids_there pairs node rank) ≡ pieces_of (pair_of x ∷ xs) (kids_there pairs node rank)
piece_known pairs node rank (Label f n) xs h = refl
piece_known pairs node rank (Hole x) xs h =
    ap (λ s. read s x.state ∷ pieces_of xs (kids_there pairs node rank)) (sym (kid_there (label 0) (parse (drop (node + 1) pairs)) rank x.variable h))

-- one more item, from the back
pub one_piece :
    (pairs : List (Symbol ℕ (Pair ℕ) × ℕ)) (right : List (Item (Pair ℕ))) (node rank i : ℕ) → i < length right → AreKnown rank right →
    piece_below pairs node (get_or right i (Label 0 0)) ∷ pieces_of (drop (i + 1) (pairs_of right)) (kids_there pairs node rank) ≡ pieces_of (drop i (pairs_of right)) (kids_there pairs node rank)
one_piece pairs right node rank i h known =
    let x : Item (Pair ℕ) = get_or right i (Label 0 0) in
    let low : i < length (pairs_of right) = omega (arith, h, length-map right pair_of) in
    let at : get_or (pairs_of right) i (label 0, 0) ≡ pair_of x = get_or-map pair_of right i (Label 0 0) (label 0, 0) h in
    piece_known pairs node rank x (drop (i + 1) (pairs_of right)) (known i h)
    ∙ ap (λ y. pieces_of (y ∷ drop (i + 1) (pairs_of right)) (kids_there pairs node rank)) (sym at)
    ∙ ap (λ ys. pieces_of ys (kids_there pairs node rank)) (sym (drop_more (pairs_of right) i (label 0, 0) low))

-- past the last item there are no pieces
pub no_pieces : {P : Type 0} (right : List (Item P)) → drop (length right) (pairs_of right) ≡ []
no_pieces [] = refl
no_pieces (x ∷ right) = no_pieces right
