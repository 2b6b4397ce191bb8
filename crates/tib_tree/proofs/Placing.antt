-- How the depths of nodes are found from the first one on.
use Rattle.std.proofs.Common.{◌≡◌, ℕ, ◌-◌, ◌<◌, List, [], ◌∷◌, ◌++◌, length, refl, ap, sym, ◌∙◌, arith, append_assoc, append-nil, length-append, zero, suc, true, false}
use Rattle.tib_tree.specs.Trees.{Tree, Trees, none, tree, count, sizes, only}
use Rattle.tib_tree.specs.Filled.{nodes_at, nodes_of_tree, nodes_at_levels, sized, sized_back}
use Rattle.tib_tree.specs.declared.preorder.Node.{Node}

-- The trees that are still to come at each level, the deepest first: how many they are, and their
-- nodes without depths, the last one first.
abbrev pub counts : List (Trees ℕ) → List ℕ
counts [] = []
counts (ts ∷ levels) = counts levels ++ count ts ∷ []

abbrev pub backs : List (Trees ℕ) → List Node
backs [] = []
backs (ts ∷ levels) = backs levels ++ sized_back ts

-- what was placed so far, and what is still to come
pub record Placed (nodes : List Node) (left : List ℕ) (back all : List Node) : Type 0 where
  pub levels : List (Trees ℕ)
  pub counts_are : left ≡ counts levels
  pub back_is : back ≡ backs levels
  pub nodes_are : nodes ++ nodes_at_levels levels ≡ all

pub same_ends : {A : Type 0} (xs ys : List A) (x y : A) → xs ++ x ∷ [] ≡ ys ++ y ∷ [] → (xs ≡ ys) × (x ≡ y)
same_ends [] [] x y e = (refl, cc)
same_ends [] (z ∷ []) x y e = let bad : x ∷ [] ≡ z ∷ (y ∷ []) = e in absurd (cc)
same_ends [] (z ∷ (w ∷ ys)) x y e = let bad : x ∷ [] ≡ z ∷ (w ∷ (ys ++ y ∷ [])) = e in absurd (cc)
same_ends (z ∷ []) [] x y e = let bad : z ∷ (x ∷ []) ≡ y ∷ [] = e in absurd (cc)
same_ends (z ∷ (w ∷ xs)) [] x y e = let bad : z ∷ (w ∷ (xs ++ x ∷ [])) ≡ y ∷ [] = e in absurd (cc)
same_ends (z ∷ xs) (w ∷ ys) x y e =
    let tail : xs ++ x ∷ [] ≡ ys ++ y ∷ [] = cc in
    let head : z ≡ w = cc in
    let h = same_ends xs ys x y tail in
    (ap (λ l. z ∷ l) h.0 ∙ ap (λ v. v ∷ ys) head, h.1)

length-counts : (levels : List (Trees ℕ)) → length (counts levels) ≡ length levels
length-counts [] = refl
length-counts (ts ∷ levels) = omega (arith, length-append (counts levels) (count ts ∷ []), length-counts levels)

no_trees : (ts : Trees ℕ) → count ts ≡ 0 → ts ≡ none
no_trees none h = refl
no_trees (tree f kids rest) h = absurd (omega arith)

pub placing_starts : (t : Tree ℕ) (nodes : List Node) (left old : List ℕ) (back : List Node) → nodes ≡ [] → old ≡ [] → left ≡ old ++ 1 ∷ [] → back ≡ sized_back (only t) → Placed nodes left back (nodes_of_tree t)
placing_starts t nodes left old back none_yet fresh e b = record {
  levels = only t ∷ [];
  counts_are = e ∙ ap (λ (l : List ℕ). l ++ 1 ∷ []) fresh;
  back_is = b;
  nodes_are = ap (λ (l : List Node). l ++ (nodes_at 0 (only t) ++ [])) none_yet ∙ append-nil (nodes_at 0 (only t));
}

all_placed_at : (levels : List (Trees ℕ)) (nodes all : List Node) (left : List ℕ) → left ≡ counts levels → nodes ++ nodes_at_levels levels ≡ all → length left ≡ 0 → nodes ≡ all
all_placed_at [] nodes all left c e h = sym (append-nil nodes) ∙ e
all_placed_at (ts ∷ levels) nodes all left c e h = absurd (omega (arith, ap length c, length-append (counts levels) (count ts ∷ [])))

-- no level is left
pub all_placed : (nodes : List Node) (left : List ℕ) (back all : List Node) → Placed nodes left back all → length left ≡ 0 → nodes ≡ all
all_placed nodes left back all p h = all_placed_at p.levels nodes all left p.counts_are p.nodes_are h

some_level : (levels : List (Trees ℕ)) (left rest : List ℕ) (n : ℕ) → left ≡ counts levels → left ≡ rest ++ n ∷ [] → (ts : Trees ℕ) × (others : List (Trees ℕ)) × (levels ≡ ts ∷ others) × (counts others ≡ rest) × (count ts ≡ n)
some_level [] left rest n c e = absurd (omega (arith, ap length (sym c ∙ e), length-append rest (n ∷ [])))
some_level (ts ∷ levels) left rest n c e = let h = same_ends (counts levels) rest (count ts) n (sym c ∙ e) in (ts, levels, refl, h.0, h.1)

-- a level that is done
pub level_done : (nodes : List Node) (left rest : List ℕ) (n : ℕ) (back all : List Node) → left ≡ rest ++ n ∷ [] → n ≡ 0 → Placed nodes left back all → Placed nodes rest back all
level_done nodes left rest n back all e z p =
    let s = some_level p.levels left rest n p.counts_are e in
    let gone : p.levels ≡ none ∷ s.1 = s.2 ∙ ap (λ (ts : Trees ℕ). ts ∷ s.1) (no_trees s.0 (s.4 ∙ z)) in
    record {
      levels = s.1;
      counts_are = sym s.3;
      back_is = p.back_is ∙ ap backs gone ∙ append-nil (backs s.1);
      nodes_are = ap (λ (ls : List (Trees ℕ)). nodes ++ nodes_at_levels ls) (sym gone) ∙ p.nodes_are;
    }

some_tree : (ts : Trees ℕ) (n : ℕ) → count ts ≡ n → 0 < n → (f : ℕ) × (kids : Trees ℕ) × (rest : Trees ℕ) × (ts ≡ tree f kids rest) × (count rest ≡ n - 1)
some_tree none n e h = absurd (omega arith)
some_tree (tree f kids rest) n e h = (f, kids, rest, refl, omega arith)

-- the nodes from the last of the first tree on
regroup : (ls : List (Trees ℕ)) (f : ℕ) (kids rest : Trees ℕ) → backs (tree f kids rest ∷ ls) ≡ backs (kids ∷ (rest ∷ ls)) ++ sized f kids ∷ []
regroup ls f kids rest =
    sym (append_assoc (backs ls) (sized_back rest) (sized_back kids ++ sized f kids ∷ []))
    ∙ sym (append_assoc (backs ls ++ sized_back rest) (sized_back kids) (sized f kids ∷ []))

-- a level with trees has nodes
pub nodes_left : (nodes : List Node) (left rest : List ℕ) (n : ℕ) (back all : List Node) → left ≡ rest ++ n ∷ [] → 0 < n → length back ≡ 0 → Placed nodes left back all → ⊥
nodes_left nodes left rest n back all e more empty p =
    let s = some_level p.levels left rest n p.counts_are e in
    let t = some_tree s.0 n s.4 more in
    let b : back ≡ backs (t.1 ∷ (t.2 ∷ s.1)) ++ sized t.0 t.1 ∷ [] = p.back_is ∙ ap backs (s.2 ∙ ap (λ (ts : Trees ℕ). ts ∷ s.1) t.3) ∙ regroup s.1 t.0 t.1 t.2 in
    omega (arith, ap length b, length-append (backs (t.1 ∷ (t.2 ∷ s.1))) (sized t.0 t.1 ∷ []))

placed_first : (ls : List (Trees ℕ)) (f : ℕ) (kids rest : Trees ℕ) (nodes : List Node) → nodes ++ nodes_at_levels (tree f kids rest ∷ ls) ≡ (nodes ++ record { label = f; rank = count kids; size = suc (sizes kids); depth = length ls } ∷ []) ++ nodes_at_levels (kids ∷ (rest ∷ ls))
placed_first ls f kids rest nodes =
    ap (λ (l : List Node). nodes ++ (record { label = f; rank = count kids; size = suc (sizes kids); depth = length ls } ∷ l)) (append_assoc (nodes_at (suc (length ls)) kids) (nodes_at (length ls) rest) (nodes_at_levels ls))
    ∙ sym (append_assoc nodes (record { label = f; rank = count kids; size = suc (sizes kids); depth = length ls } ∷ []) (nodes_at_levels (kids ∷ (rest ∷ ls))))

-- a node, after which its children come at a level of their own
pub node_placed : (nodes now : List Node) (left rest mid after : List ℕ) (n depth : ℕ) (back more all : List Node) (node : Node) → left ≡ rest ++ n ∷ [] → 0 < n → back ≡ more ++ node ∷ [] → mid ≡ rest ++ (n - 1) ∷ [] → after ≡ mid ++ node.rank ∷ [] → depth ≡ length mid - 1 → now ≡ nodes ++ record { label = node.label; rank = node.rank; size = node.size; depth = depth } ∷ [] → Placed nodes left back all → Placed now after more all
node_placed nodes now left rest mid after n depth back more all node e some b m a d new p =
    let s = some_level p.levels left rest n p.counts_are e in
    let t = some_tree s.0 n s.4 some in
    let f : ℕ = t.0 in
    let kids : Trees ℕ = t.1 in
    let others : Trees ℕ = t.2 in
    let ls : List (Trees ℕ) = s.1 in
    let shape : p.levels ≡ tree f kids others ∷ ls = s.2 ∙ ap (λ (ts : Trees ℕ). ts ∷ ls) t.3 in
    let back_at : more ++ node ∷ [] ≡ backs (kids ∷ (others ∷ ls)) ++ sized f kids ∷ [] = sym b ∙ p.back_is ∙ ap backs shape ∙ regroup ls f kids others in
    let same = same_ends more (backs (kids ∷ (others ∷ ls))) node (sized f kids) back_at in
    let deep : depth ≡ length ls = omega (arith, d, ap length m, length-append rest ((n - 1) ∷ []), ap length s.3, length-counts ls) in
    let first : record { label = node.label; rank = node.rank; size = node.size; depth = depth } ≡ record { label = f; rank = count kids; size = suc (sizes kids); depth = length ls } =
    ap (λ (x : Node). record { label = x.label; rank = x.rank; size = x.size; depth = depth }) same.1 ∙ ap (λ (k : ℕ). record { label = f; rank = count kids; size = suc (sizes kids); depth = k }) deep in
    record {
      levels = kids ∷ (others ∷ ls);
      counts_are = a ∙ ap (λ (l : List ℕ). l ++ node.rank ∷ []) (m ∙ ap (λ (l : List ℕ). l ++ (n - 1) ∷ []) (sym s.3) ∙ ap (λ (k : ℕ). counts ls ++ k ∷ []) (sym t.4)) ∙ ap (λ (x : Node). (counts ls ++ count others ∷ []) ++ x.rank ∷ []) same.1;
      back_is = same.0;
      nodes_are = ap (λ (l : List Node). l ++ nodes_at_levels (kids ∷ (others ∷ ls))) (new ∙ ap (λ (x : Node). nodes ++ x ∷ []) first) ∙ sym (placed_first ls f kids others nodes) ∙ ap (λ (l : List (Trees ℕ)). nodes ++ nodes_at_levels l) (sym shape) ∙ p.nodes_are;
    }

pub nothing : (n : ℕ) → (0 < n → false ≡ true) → n ≡ 0
nothing zero h = refl
nothing (suc n) h = let bad : false ≡ true = h (omega arith) in absurd (cc)
