-- The order of trees is that of their nodes, read side by side.
use Rattle.std.specs.Prelude.{◌≡◌, ℕ, ◌+◌, ◌-◌, ◌<◌, ◌≤◌, ◌⊎◌, List, [], ◌∷◌, ◌++◌, length, drop, All, refl}
use Rattle.std.specs.declared.cmp.Ordering.{Ordering}
use Rattle.std.specs.declared.cmp.Ordering.TheVariants.{Less, Equal, Greater}
use Rattle.std.specs.Ordering.{nat_cmp, ordering_then}
use Rattle.std.specs.Cmp.{nat_cmp_is}
use Rattle.std.specs.Cmp.Lexicographic.{slice_cmp}
use Rattle.std.proofs.Common.{suc, arith, ap, sym, ◌∙◌, subst, inl, inr, get_or, add-one}
use Rattle.std.proofs.lemmas.List.{append_assoc, length-drop}
use Rattle.std.proofs.lemmas.List.Elements.{All-nil, All-cons, All-append}
use Rattle.std.proofs.Math.Seq.{drop-cons}
use Rattle.tib_tree.specs.Trees.{Tree, Trees, none, tree, count, sizes, only, relabel}
use Rattle.tib_tree.specs.Growth.{text_at, LabelsBelow}
use Rattle.tib_tree.specs.Filled.{nodes_at, nodes_of_tree}
use Rattle.tib_tree.specs.declared.preorder.Node.{Node}
use Rattle.tib_tree.proofs.Counts.{count-relabel, sizes-relabel}
use Rattle.tib_tree.specs.Order.{trees_cmp, tree_cmp_by, node_cmp}
use Rattle.tib_tree.proofs.Orderings.{nat_itself, nat_equal, nat_suc, then_assoc, then_decided}

-- what follows a node decides only if the nodes are equal
regroup :
    (s t r k q x l : Ordering) → (r ≡ Equal → l ≡ ordering_then k (ordering_then q x)) →
    ordering_then (ordering_then s (ordering_then t r)) l ≡ ordering_then (ordering_then s (ordering_then t (ordering_then r (ordering_then k q)))) x
regroup Less t r k q x l h = refl
regroup Greater t r k q x l h = refl
regroup Equal Less r k q x l h = refl
regroup Equal Greater r k q x l h = refl
regroup Equal Equal Less k q x l h = refl
regroup Equal Equal Greater k q x l h = refl
regroup Equal Equal Equal k q x l h = h refl ∙ sym (then_assoc k q x)

module _ (labels : List (List ℕ)) where
  abbrev rows : Trees ℕ → Trees ℕ → Ordering
  rows ts us = trees_cmp (slice_cmp nat_cmp) (relabel (text_at labels) ts) (relabel (text_at labels) us)

  -- as many trees side by side compare as their nodes do
  by_nodes :
      (ts us : Trees ℕ) (d e : ℕ) (xs ys : List Node) → count ts ≡ count us →
      slice_cmp (node_cmp labels) (nodes_at d ts ++ xs) (nodes_at e us ++ ys) ≡ ordering_then (rows ts us) (slice_cmp (node_cmp labels) xs ys)
  by_nodes none none d e xs ys h = refl
  by_nodes none (tree g ls more) d e xs ys h = absurd (omega arith)
  by_nodes (tree f ks rest) none d e xs ys h = absurd (omega arith)
  by_nodes (tree f ks rest) (tree g ls more) d e xs ys h =
      let inner : nat_cmp (count ks) (count ls) ≡ Equal →
      slice_cmp (node_cmp labels) ((nodes_at (suc d) ks ++ nodes_at d rest) ++ xs) ((nodes_at (suc e) ls ++ nodes_at e more) ++ ys)
      ≡ ordering_then (rows ks ls) (ordering_then (rows rest more) (slice_cmp (node_cmp labels) xs ys)) =
      λ k. ap (λ zs. slice_cmp (node_cmp labels) zs ((nodes_at (suc e) ls ++ nodes_at e more) ++ ys)) (append_assoc (nodes_at (suc d) ks) (nodes_at d rest) xs)
      ∙ ap (λ zs. slice_cmp (node_cmp labels) (nodes_at (suc d) ks ++ (nodes_at d rest ++ xs)) zs) (append_assoc (nodes_at (suc e) ls) (nodes_at e more) ys)
      ∙ by_nodes ks ls (suc d) (suc e) (nodes_at d rest ++ xs) (nodes_at e more ++ ys) (nat_equal (count ks) (count ls) k)
      ∙ ap (ordering_then (rows ks ls)) (by_nodes rest more d e xs ys (omega arith))
      in
      rw (nat_suc (sizes ks) (sizes ls), sizes-relabel (text_at labels) ks, sizes-relabel (text_at labels) ls, count-relabel (text_at labels) ks, count-relabel (text_at labels) ls)
      (regroup (nat_cmp (sizes ks) (sizes ls)) (slice_cmp nat_cmp (text_at labels f) (text_at labels g)) (nat_cmp (count ks) (count ls)) (rows ks ls) (rows rest more) (slice_cmp (node_cmp labels) xs ys)
      (slice_cmp (node_cmp labels) ((nodes_at (suc d) ks ++ nodes_at d rest) ++ xs) ((nodes_at (suc e) ls ++ nodes_at e more) ++ ys)) inner)

  then_Equal_right : (o : Ordering) → ordering_then o Equal ≡ o
  then_Equal_right Less = refl
  then_Equal_right Equal = refl
  then_Equal_right Greater = refl

  -- two trees compare as their nodes do
  pub trees_by_nodes : (a b : Tree ℕ) → slice_cmp (node_cmp labels) (nodes_of_tree a) (nodes_of_tree b) ≡ tree_cmp_by labels a b
  trees_by_nodes a b =
      ap (λ zs. slice_cmp (node_cmp labels) zs (nodes_of_tree b)) (sym (Rattle.tib_lex.proofs.Lists.append_nil (nodes_of_tree a)))
      ∙ ap (λ zs. slice_cmp (node_cmp labels) (nodes_of_tree a ++ []) zs) (sym (Rattle.tib_lex.proofs.Lists.append_nil (nodes_of_tree b)))
      ∙ by_nodes (only a) (only b) 0 0 [] [] refl
      ∙ then_Equal_right (tree_cmp_by labels a b)

  -- so far the nodes are equal
  abbrev pub SoFar : ℕ → List Node → List Node → Type 0
  SoFar i xs ys = slice_cmp (node_cmp labels) xs ys ≡ slice_cmp (node_cmp labels) (drop i xs) (drop i ys)

  pub step_equal : (i : ℕ) (xs ys : List Node) (m n z : Node) → i < length xs → i < length ys → m ≡ get_or xs i z → n ≡ get_or ys i z → node_cmp labels m n ≡ Equal → SoFar i xs ys → SoFar (i + 1) xs ys
  step_equal i xs ys m n z h k x y e so =
      let a : drop i xs ≡ m ∷ drop (suc i) xs = drop-cons xs i z h ∙ ap (λ w. w ∷ drop (suc i) xs) (sym x) in
      let b : drop i ys ≡ n ∷ drop (suc i) ys = drop-cons ys i z k ∙ ap (λ w. w ∷ drop (suc i) ys) (sym y) in
      rw (add-one i) (so ∙ ap (λ zs. slice_cmp (node_cmp labels) zs (drop i ys)) a ∙ ap (slice_cmp (node_cmp labels) (m ∷ drop (suc i) xs)) b ∙ ap (λ o. ordering_then o (slice_cmp (node_cmp labels) (drop (suc i) xs) (drop (suc i) ys))) e)

  pub step_other : (i : ℕ) (xs ys : List Node) (m n z : Node) → i < length xs → i < length ys → m ≡ get_or xs i z → n ≡ get_or ys i z → (node_cmp labels m n ≡ Equal → ⊥) → SoFar i xs ys → node_cmp labels m n ≡ slice_cmp (node_cmp labels) xs ys
  step_other i xs ys m n z h k x y other so =
      let a : drop i xs ≡ m ∷ drop (suc i) xs = drop-cons xs i z h ∙ ap (λ w. w ∷ drop (suc i) xs) (sym x) in
      let b : drop i ys ≡ n ∷ drop (suc i) ys = drop-cons ys i z k ∙ ap (λ w. w ∷ drop (suc i) ys) (sym y) in
      sym (so ∙ ap (λ zs. slice_cmp (node_cmp labels) zs (drop i ys)) a ∙ ap (slice_cmp (node_cmp labels) (m ∷ drop (suc i) xs)) b ∙ then_decided (node_cmp labels m n) (slice_cmp (node_cmp labels) (drop (suc i) xs) (drop (suc i) ys)) other)

  pub ends : (i : ℕ) (xs ys : List Node) → i ≤ length xs → i ≤ length ys → (length xs ≤ i) ⊎ (length ys ≤ i) → SoFar i xs ys → nat_cmp (length xs) (length ys) ≡ slice_cmp (node_cmp labels) xs ys
  ends i xs ys h k end so = by (drop i xs) (drop i ys) (length-drop i xs) (length-drop i ys) (sym so)
    where
      by :
          (us vs : List Node) → length us ≡ length xs - i → length vs ≡ length ys - i → slice_cmp (node_cmp labels) us vs ≡ slice_cmp (node_cmp labels) xs ys →
          nat_cmp (length xs) (length ys) ≡ slice_cmp (node_cmp labels) xs ys
      by [] [] a b e = let s : length xs ≡ length ys = omega (arith, a, b, h, k) in ap (λ n. nat_cmp n (length ys)) s ∙ nat_itself (length ys) ∙ e
      by [] (v ∷ vs) a b e = let s : length xs < length ys = omega (arith, a, b, h, k) in sym (nat_cmp_is (length xs) (length ys) Less s) ∙ e
      by (u ∷ us) [] a b e = let s : length ys < length xs = omega (arith, a, b, h, k) in sym (nat_cmp_is (length xs) (length ys) Greater s) ∙ e
      by (u ∷ us) (v ∷ vs) a b e = absurd (elim end [ inl x ↦ omega (arith, a) | inr y ↦ omega (arith, b) ])

-- the labels of the nodes of a tree are those of the tree
labels_at : (n d : ℕ) (ts : Trees ℕ) → LabelsBelow n ts → All (λ (x : Node). x.label < n) (nodes_at d ts)
labels_at n d none h = All-nil (λ (x : Node). x.label < n)
labels_at n d (tree f kids rest) h =
    All-cons (λ (x : Node). x.label < n) _ (nodes_at (suc d) kids ++ nodes_at d rest) h.0 (All-append (λ (x : Node). x.label < n) (nodes_at (suc d) kids) (nodes_at d rest) (labels_at n (suc d) kids h.1) (labels_at n d rest h.2))

pub labels_of : (n : ℕ) (t : Tree ℕ) (nodes : List Node) → nodes ≡ nodes_of_tree t → LabelsBelow n (only t) → All (λ (x : Node). x.label < n) nodes
labels_of n t nodes e h = subst (λ (ns : List Node). All (λ (x : Node). x.label < n) ns) (sym e) (labels_at n 0 (only t) h)
