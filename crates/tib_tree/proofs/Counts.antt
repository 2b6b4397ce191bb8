-- How many nodes trees have, and what new labels leave of them.
use Rattle.std.specs.Prelude.{◌≡◌, length, refl}
use Rattle.std.proofs.Common.{arith, suc, ap, ◌∙◌}
use Rattle.std.proofs.lemmas.List.{length-append}
use Rattle.tib_tree.specs.Trees.{Trees, none, tree, sizes, preorder, count, relabel, Tree, only}

-- a preorder has an entry for each node
pub length-preorder : {A : Type 0} (ts : Trees A) → length (preorder ts) ≡ sizes ts
length-preorder none = refl
length-preorder (tree f kids rest) = omega (arith, length-append (preorder kids) (preorder rest), length-preorder kids, length-preorder rest)

-- trees under new labels are as many
pub count-relabel : {A B : Type 0} (g : A → B) (ts : Trees A) → count (relabel g ts) ≡ count ts
count-relabel g none = refl
count-relabel g (tree f kids rest) = ap suc (count-relabel g rest)

-- and have as many nodes
pub sizes-relabel : {A B : Type 0} (g : A → B) (ts : Trees A) → sizes (relabel g ts) ≡ sizes ts
sizes-relabel g none = refl
sizes-relabel g (tree f ks rest) = omega (arith, sizes-relabel g ks, sizes-relabel g rest)

-- trees that are the same as lists of one are the same
pub tree_same : {A : Type 0} (s t : Tree A) → only s ≡ only t → s ≡ t
tree_same {A} s t e =
    let o : tree s.label s.kids none ≡ tree t.label t.kids none = e in
    let a : s.label ≡ t.label = cc in
    let b : s.kids ≡ t.kids = cc in
    ap (λ (l : A). record { label = l; kids = s.kids }) a ∙ ap (λ (k : Trees A). record { label = t.label; kids = k }) b
