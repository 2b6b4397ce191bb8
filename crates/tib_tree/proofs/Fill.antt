-- The pairs of a tree's nodes are its preorder.
use Rattle.std.proofs.Common.{◌≡◌, ℕ, List, [], ◌∷◌, ◌++◌, length, refl, ap, sym, ◌∙◌, suc, arith, length-append}
use Rattle.std.proofs.lemmas.List.{map-append}
use Rattle.tib_tree.specs.Trees.{Tree, Trees, none, tree, count, sizes, only, preorder, preorder_of, parse, parse_of, first_of, IsOneTree, preorder-first}
use Rattle.tib_tree.specs.Pairs.{pair_of, pairs_of}
use Rattle.tib_tree.specs.Filled.{nodes_at, nodes_of_tree, sized, sized_back}
use Rattle.tib_tree.specs.declared.preorder.Node.{Node}
use Rattle.tib_tree.proofs.Sizing.{sizes-parse}
use Rattle.tib_lex.proofs.Lists.{append_nil}

pub pairs-nodes_at : (d : ℕ) (ts : Trees ℕ) → pairs_of (nodes_at d ts) ≡ preorder ts
pairs-nodes_at d none = refl
pairs-nodes_at d (tree f kids rest) =
    ap (λ x. (f, count kids) ∷ x)
    (map-append pair_of (nodes_at (suc d) kids) (nodes_at d rest) ∙ rw (pairs-nodes_at (suc d) kids, pairs-nodes_at d rest))

pub pairs-nodes_of_tree : (t : Tree ℕ) → pairs_of (nodes_of_tree t) ≡ preorder_of t
pairs-nodes_of_tree t = pairs-nodes_at 0 (only t) ∙ ap (λ x. (t.label, count t.kids) ∷ x) (append_nil (preorder t.kids))

-- a tree whose nodes are these
pub tree_of_nodes : (t : Tree ℕ) (nodes : List Node) → nodes ≡ nodes_of_tree t → first_of 0 (parse (pairs_of nodes)) ≡ t
tree_of_nodes t nodes e =
    let p : parse (pairs_of nodes) ≡ only t = ap parse (ap pairs_of e ∙ pairs-nodes_of_tree t) ∙ parse_of t in
    ap (first_of 0) p

pub filled : (t : Tree ℕ) (nodes : List Node) → nodes ≡ nodes_of_tree t → nodes_of_tree (first_of 0 (parse (pairs_of nodes))) ≡ nodes
filled t nodes e = ap nodes_of_tree (tree_of_nodes t nodes e) ∙ sym e

-- the only tree of a preorder
pub only_tree : (ts : Trees ℕ) → count ts ≡ 1 → ts ≡ only (first_of 0 ts)
only_tree none h = absurd (omega arith)
only_tree (tree f kids none) h = refl
only_tree (tree f kids (tree g more rest)) h = absurd (omega arith)

pub only_one : (items : List (ℕ × ℕ)) → IsOneTree items → parse items ≡ only (first_of 0 (parse items))
only_one items one = only_tree (parse items) one.one

pub preorder_same : (t : Tree ℕ) (items : List (ℕ × ℕ)) (nodes : List Node) → IsOneTree items → t ≡ first_of 0 (parse items) → nodes ≡ nodes_of_tree t → preorder_of (first_of 0 (parse (pairs_of nodes))) ≡ items
preorder_same t items nodes one is e = ap preorder_of (tree_of_nodes t nodes e ∙ is) ∙ preorder-first 0 items one

-- as many nodes as there are items
pub length-sized : (ts : Trees ℕ) → length (sized_back ts) ≡ sizes ts
length-sized none = refl
length-sized (tree f kids rest) =
    omega (arith, length-append (sized_back rest) (sized_back kids ++ sized f kids ∷ []), length-append (sized_back kids) (sized f kids ∷ []), length-sized kids, length-sized rest)

pub few_sized : (items : List (ℕ × ℕ)) (back : List Node) → back ≡ sized_back (parse items) → length back ≡ length items
few_sized items back e = ap length e ∙ length-sized (parse items) ∙ sizes-parse items
