-- Nodes that stand for what is written, and the trees that are meant.
use Rattle.std.proofs.Common.{◌≡◌, ℕ, List, [], ◌∷◌, ◌++◌, length, take, drop, refl, ap, sym, ◌∙◌, subst, append-nil, suc}
use Rattle.std.specs.Prelude.{slice_get, Some, None, Contains, Bool}
use Rattle.std.proofs.lemmas.List.{take-append-drop}
use Rattle.std.proofs.lemmas.Option.{slice_get_within, get_or_from_slice_get}
use Rattle.tib_lex.specs.Lists.{Along}
use Rattle.tib_lex.proofs.Alongs.{along_append}
use Rattle.tib_tree.specs.Trees.{Tree, Trees, none, tree, only, preorder, preorder_of, parse, parse_of_preorder, count as count_trees}
use Rattle.tib_tree.specs.Written.{Written, item, end, leaf, head, items, count}
use Rattle.tib_grammar.specs.Sides.{Symbol, label, hole}
use Rattle.tib_grammar_file.specs.GrammarText.{IsLeaf, IsHead, Means}
use Rattle.tib_grammar_file.specs.Value.{IsSymbol, IsNode}
use Rattle.tib_grammar_file.proofs.Alongs.{along_front, along_back}

-- a text with a number is held
pub contains_at : (names : List (List ℕ)) (n : ℕ) (text : List ℕ) → slice_get names n ≡ Some text → Contains names text
contains_at names n text e = (n, slice_get_within names n text e, get_or_from_slice_get names n text text e)

leaf_back : (names labels : List (List ℕ)) (s : Symbol ℕ ℕ) (q : Bool) (t : List ℕ) → IsSymbol names labels s (item q t None) → IsLeaf names labels s q t
leaf_back names labels (hole p) q t h = (h.0.plain, h.1)
leaf_back names labels (label f) q t h = (λ e c. h.0 (record { plain = e; leaf = refl; held = c }), h.1)

leaf_forth : (names labels : List (List ℕ)) (s : Symbol ℕ ℕ) (q : Bool) (t : List ℕ) → IsLeaf names labels s q t → IsSymbol names labels s (item q t None)
leaf_forth names labels (hole p) q t h = (record { plain = h.0; leaf = refl; held = contains_at names p t h.1 }, h.1)
leaf_forth names labels (label f) q t h = (λ l. h.0 l.plain l.held, h.1)

head_back : (names labels : List (List ℕ)) (s : Symbol ℕ ℕ) (q : Bool) (t : List ℕ) (n : ℕ) → IsSymbol names labels s (item q t (Some n)) → IsHead labels s t
head_back names labels (hole p) q t n h = let bad : Some n ≡ None = h.0.leaf in cc
head_back names labels (label f) q t n h = h.1

head_forth : (names labels : List (List ℕ)) (s : Symbol ℕ ℕ) (q : Bool) (t : List ℕ) (n : ℕ) → IsHead labels s t → IsSymbol names labels s (item q t (Some n))
head_forth names labels (hole p) q t n h = absurd h
head_forth names labels (label f) q t n h = (λ l. let bad : Some n ≡ None = l.leaf in cc, h)

-- symbols that stand for the nodes of written trees are the preorder of the trees that are meant
pub record Grown (names labels : List (List ℕ)) (xs : List (Symbol ℕ ℕ × ℕ)) (f : Written) : Type 0 where
  pub trees : Trees (Symbol ℕ ℕ)
  pub order : preorder trees ≡ xs
  pub many : count_trees trees ≡ count f
  pub means : Means names labels trees f

rank_same : (x : Symbol ℕ ℕ × ℕ) (n : ℕ) → x.1 ≡ n → (x.0, n) ≡ x
rank_same x n e = ap (λ (m : ℕ). (x.0, m)) (sym e)

pub grown : (names labels : List (List ℕ)) (f : Written) (xs : List (Symbol ℕ ℕ × ℕ)) → Along (IsNode names labels) xs (items f) → Grown names labels xs f
grown names labels end [] h = record { trees = none; order = refl; many = refl; means = tt }
grown names labels end (x ∷ xs) h = absurd h
grown names labels (leaf q t rest) [] h = absurd h
grown names labels (leaf q t rest) (x ∷ xs) h =
    let g = grown names labels rest xs h.1 in
    record {
      trees = tree x.0 none g.trees;
      order = ap (λ (p : Symbol ℕ ℕ × ℕ). p ∷ preorder g.trees) (rank_same x 0 h.0.1) ∙ ap (λ (ys : List (Symbol ℕ ℕ × ℕ)). x ∷ ys) g.order;
      many = ap suc g.many;
      means = (leaf_back names labels x.0 q t h.0.0, refl, g.means);
    }
grown names labels (head q t kids rest) [] h = absurd h
grown names labels (head q t kids rest) (x ∷ xs) h =
    let n : ℕ = length (items kids) in
    let k = grown names labels kids (take n xs) (along_front (IsNode names labels) xs (items kids) (items rest) h.1) in
    let g = grown names labels rest (drop n xs) (along_back (IsNode names labels) xs (items kids) (items rest) h.1) in
    record {
      trees = tree x.0 k.trees g.trees;
      order = ap (λ (p : Symbol ℕ ℕ × ℕ). p ∷ (preorder k.trees ++ preorder g.trees)) (rank_same x (count_trees k.trees) (h.0.1 ∙ sym k.many))
          ∙ ap (λ (ys : List (Symbol ℕ ℕ × ℕ)). x ∷ (ys ++ preorder g.trees)) k.order
          ∙ ap (λ (ys : List (Symbol ℕ ℕ × ℕ)). x ∷ (take n xs ++ ys)) g.order
          ∙ ap (λ (ys : List (Symbol ℕ ℕ × ℕ)). x ∷ ys) (take-append-drop n xs);
      many = ap suc g.many;
      means = (head_back names labels x.0 q t (count kids) h.0.0, k.means, g.means);
    }

pub preorder_whole : {A : Type 0} (s : Tree A) → preorder (only s) ≡ preorder_of s
preorder_whole s = ap (λ (xs : List _). (s.label, count_trees s.kids) ∷ xs) (append-nil (preorder s.kids))

-- a side whose preorder stands for the nodes of a written tree is what is meant
pub side_means : (names labels : List (List ℕ)) (f : Written) (s : Tree (Symbol ℕ ℕ)) → Along (IsNode names labels) (preorder_of s) (items f) → Means names labels (only s) f
side_means names labels f s h =
    let g = grown names labels f (preorder_of s) h in
    let same : g.trees ≡ only s = sym (parse_of_preorder g.trees) ∙ ap parse (g.order ∙ sym (preorder_whole s)) ∙ parse_of_preorder (only s) in
    subst (λ (ts : Trees (Symbol ℕ ℕ)). Means names labels ts f) same g.means

pub meant_count : (names labels : List (List ℕ)) (ts : Trees (Symbol ℕ ℕ)) (f : Written) → Means names labels ts f → count_trees ts ≡ count f
meant_count names labels none end h = refl
meant_count names labels none (leaf q t rest) h = absurd h
meant_count names labels none (head q t kids rest) h = absurd h
meant_count names labels (tree s ks more) end h = absurd h
meant_count names labels (tree s ks more) (leaf q t rest) h = ap suc (meant_count names labels more rest h.2)
meant_count names labels (tree s ks more) (head q t kids rest) h = ap suc (meant_count names labels more rest h.2)

-- trees that are meant stand for the nodes, in preorder
pub meant_nodes : (names labels : List (List ℕ)) (ts : Trees (Symbol ℕ ℕ)) (f : Written) → Means names labels ts f → Along (IsNode names labels) (preorder ts) (items f)
meant_nodes names labels none end h = tt
meant_nodes names labels none (leaf q t rest) h = absurd h
meant_nodes names labels none (head q t kids rest) h = absurd h
meant_nodes names labels (tree s ks more) end h = absurd h
meant_nodes names labels (tree s ks more) (leaf q t rest) h =
    ((leaf_forth names labels s q t h.0, ap count_trees h.1), subst (λ (ks : Trees (Symbol ℕ ℕ)). Along (IsNode names labels) (preorder ks ++ preorder more) (items rest)) (sym h.1) (meant_nodes names labels more rest h.2))
meant_nodes names labels (tree s ks more) (head q t kids rest) h =
    ((head_forth names labels s q t (count kids) h.0, meant_count names labels ks kids h.1), along_append (IsNode names labels) (preorder ks) (preorder more) (items kids) (items rest) (meant_nodes names labels ks kids h.1) (meant_nodes names labels more rest h.2))

pub meant_side : (names labels : List (List ℕ)) (f : Written) (s : Tree (Symbol ℕ ℕ)) → Means names labels (only s) f → Along (IsNode names labels) (preorder_of s) (items f)
meant_side names labels f s h = subst (λ (xs : List (Symbol ℕ ℕ × ℕ)). Along (IsNode names labels) xs (items f)) (preorder_whole s) (meant_nodes names labels (only s) f h)
