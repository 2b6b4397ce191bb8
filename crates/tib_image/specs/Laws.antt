-- What holds of all edges of the image of a tree, and of all rules that stand for them.
use Rattle.std.specs.Prelude.{◌≡◌, ℕ, ◌<◌, List, [], ◌∷◌, refl}
use Rattle.std.proofs.Common.{zero, suc, arith, ap, sym, ◌∙◌, subst, get_or}
use Rattle.tib_lex.specs.Lists.{Has, Each}
use Rattle.tib_lex.proofs.Lists.{has_mapped}
use Rattle.tib_lex.proofs.Members.{each_has, has_at}
use Rattle.tib_tree.specs.Trees.{Tree, size, only}
use Rattle.tib_grammar.specs.Sides.{holes_of}
use Rattle.tib_grammar.specs.declared.Rule.{Rule}
use Rattle.tib_grammar.proofs.Sides.{holes-relabel}
use Rattle.tib_expand.specs.Lawful.{IsLawful}
use Rattle.tib_expand.specs.Reading.{Reading}
use Rattle.tib_key_edges.specs.Ends.{key_at}
use Rattle.tib_key_edges.proofs.KeyOrders.{key_stays}
use Rattle.tib_transducer.specs.Rules.{transducer_rule}
use Rattle.tib_transducer.specs.declared.Pair.{Pair}
use Rattle.tib_transducer.specs.declared.TransducerRule.{TransducerRule}
use Rattle.tib_key_edges.specs.declared.side_rule.SideRule.{SideRule}
use Rattle.tib_key_edges.specs.SideRules.{side_reading}
use Rattle.tib_key_edges.specs.SideRuleLaws.{reads_places, reads_positions}
use Rattle.tib_image.specs.Nodes.{subtree, nodes_of}
use Rattle.tib_image.specs.Image.{pair_key, key_cmp, key_entries, image_of, IsImageEdge}
use Rattle.tib_image.specs.Standing.{stands, nodes_within}

-- how rules over places and over positions are read as edges
abbrev pub image_reading : Reading (ℕ × ℕ) (Rule (ℕ × ℕ)) (SideRule (Pair ℕ)) (Rule ℕ)
image_reading = side_reading (ℕ × ℕ) (Pair ℕ)

-- an origin gives a key one edge
pub same_edge : (moves : List (TransducerRule ℕ)) (t : Tree ℕ) (key : ℕ × ℕ) (o : ℕ) (e f : Rule (ℕ × ℕ)) → IsImageEdge moves t key o e → IsImageEdge moves t key o f → e ≡ f
same_edge moves t key o e f h k =
    ap (λ l. record { left = l; right = e.right; cost = e.cost }) (h.left ∙ sym k.left)
    ∙ ap (λ r. record { left = f.left; right = r; cost = e.cost }) (h.right ∙ sym k.right)
    ∙ ap (λ c. record { left = f.left; right = f.right; cost = c }) (h.costs ∙ sym k.costs)

-- a node among nodes of a tree, or the root, is one of the tree
pub node_below : (s : ℕ) (ns : List ℕ) (v : ℕ) → 0 < s → Each (λ m. m < s) ns → get_or ns v 0 < s
node_below s [] v some e = some
node_below s (n ∷ ns) zero some e = e.0
node_below s (n ∷ ns) (suc v) some e = node_below s ns v some e.1

-- the ends of an edge are at nodes of the tree
ends_within :
    (moves : List (TransducerRule ℕ)) (t : Tree ℕ) (key : ℕ × ℕ) (o : ℕ) (e : Rule (ℕ × ℕ)) (k : ℕ × ℕ) → key.1 < size t → IsImageEdge moves t key o e → Has (holes_of e.right) k → k.1 < size t
ends_within moves t key o e k below is has =
    let ns : List ℕ = nodes_of (transducer_rule moves o).left t key.1 in
    let keys = ap (λ s. holes_of s) is.right ∙ holes-relabel (pair_key ns) (only (transducer_rule moves o).right) in
    let x = has_mapped (pair_key ns) (holes_of (transducer_rule moves o).right) k (subst (λ (xs : List (ℕ × ℕ)). Has xs k) keys has) in
    let low : Each (λ n. n < size t) ns = nodes_within t (only (transducer_rule moves o).left) (only (subtree t key.1)) key.1 (stands t key.1 below) in
    subst (λ (y : ℕ × ℕ). y.1 < size t) x.2 (node_below (size t) ns x.0.variable (omega arith) low)

root_within : (t : Tree ℕ) (k : ℕ × ℕ) → k ≡ (0, 0) → k.1 < size t
root_within t k e = let root : k.1 ≡ 0 = ap (λ (z : ℕ × ℕ). z.1) e in omega (arith, root)

-- all laws of the operation, for its keys, edges and rules
pub image_is_lawful : (moves : List (TransducerRule ℕ)) (t : Tree ℕ) → IsLawful (image_of moves t) (λ k. k.1 < size t) image_reading key_cmp key_entries
image_is_lawful moves t = record {
  same_order = refl;
  same_parts = refl;
  reads_places = λ rule f g same. reads_places rule f g same;
  reads_positions = λ rule f g same. reads_positions rule f g same;
  one_edge = λ order m o e f x y. same_edge moves t (key_at order m) o e f x y;
  one_seed_edge = λ o e f x y. absurd x;
  seeds_admitted = λ k is. root_within t k is;
  ends_admitted = λ order m o e k all below is has.
      ends_within moves t (key_at order m) o e k (each_has (λ (x : ℕ × ℕ). x.1 < size t) order (key_at order m) all (has_at order m (0, 0) below)) is has;
  seeds_end = λ o e k is has. absurd is;
  edges_stay = λ xs ys m o e x y same is. subst (λ k. IsImageEdge moves t k o e) (key_stays (0, 0) xs ys m same) is;
}
