-- The value of nodes that were read.
use Rattle.std.proofs.Common.{◌≡◌, ℕ, List, [], ◌∷◌, ◌++◌, refl, ap, sym, ◌∙◌, subst, suc}
use Rattle.tib_lex.specs.Grammar.{Word}
use Rattle.tib_tree.specs.Trees.{Tree, Trees, none, tree, only, preorder, preorder_of, parse, count as trees_count, IsOneTree, HasChildren, HasChildren_of_preorder, parse_of_preorder}
use Rattle.tib_tree.specs.Written.{Written, end, leaf, head, count, Item, items}
use Rattle.tib_tree.specs.Machine.{IsTree}
use Rattle.tib_tree.specs.Nodes.{AreNodes}
use Rattle.tib_tree.specs.Meaning.{Says, SpellsTree, HaveValue}
use Rattle.tib_lex.proofs.Lists.{append_nil}

record Parts (labels : List (List ℕ)) (ns : List (ℕ × ℕ)) (xs ys : List Item) : Type 0 where
  left : List (ℕ × ℕ)
  right : List (ℕ × ℕ)
  all : ns ≡ left ++ right
  are_left : AreNodes labels left xs
  are_right : AreNodes labels right ys

split : (labels : List (List ℕ)) (ns : List (ℕ × ℕ)) (xs ys : List Item) → AreNodes labels ns (xs ++ ys) → Parts labels ns xs ys
split labels ns [] ys h = record { left = []; right = ns; all = refl; are_left = tt; are_right = h }
split labels [] (x ∷ xs) ys h = absurd h
split labels (n ∷ ns) (x ∷ xs) ys h =
    let p = split labels ns xs ys h.1 in
    record { left = n ∷ p.left; right = p.right; all = ap (λ (ms : List (ℕ × ℕ)). n ∷ ms) p.all; are_left = (h.0, p.are_left); are_right = p.are_right }

-- as many trees are said as are written
pub count_said : (labels : List (List ℕ)) (w : Written) (ts : Trees ℕ) → Says labels w ts → trees_count ts ≡ count w
count_said labels end none h = refl
count_said labels end (tree f kids rest) h = absurd h
count_said labels (leaf q t more) none h = absurd h
count_said labels (leaf q t more) (tree f none rest) h = ap suc (count_said labels more rest h.1)
count_said labels (leaf q t more) (tree f (tree g kids others) rest) h = absurd h
count_said labels (head q t inner more) none h = absurd h
count_said labels (head q t inner more) (tree f kids rest) h = ap suc (count_said labels more rest h.2)

same_pair : (f : ℕ) (n : ℕ × ℕ) (r : ℕ) → f ≡ n.0 → r ≡ n.1 → ◌≡◌ {A = ℕ × ℕ} (f, r) n
same_pair f n r e g = ap {A = ℕ} {B = ℕ × ℕ} (λ x. (x, r)) e ∙ ap {A = ℕ} {B = ℕ × ℕ} (λ x. (n.0, x)) g

pub value_of : (labels : List (List ℕ)) (w : Written) (ns : List (ℕ × ℕ)) → AreNodes labels ns (items w) → HaveValue labels w ns
value_of labels end [] h = record { value = none; nodes = refl; says = tt }
value_of labels end (n ∷ ns) h = absurd h
value_of labels (leaf q t more) [] h = absurd h
value_of labels (leaf q t more) (n ∷ ns) h =
    let v = value_of labels more ns h.1 in
    record {
      value = tree n.0 none v.value;
      nodes = ap (λ (x : ℕ × ℕ). x ∷ preorder v.value) (same_pair n.0 n 0 refl (sym h.0.1)) ∙ ap (λ (xs : List (ℕ × ℕ)). n ∷ xs) v.nodes;
      says = (h.0.0, v.says);
    }
value_of labels (head q t inner more) [] h = absurd h
value_of labels (head q t inner more) (n ∷ ns) h =
    let p = split labels ns (items inner) (items more) h.1 in
    let v = value_of labels inner p.left p.are_left in
    let w = value_of labels more p.right p.are_right in
    let rank : trees_count v.value ≡ n.1 = count_said labels inner v.value v.says ∙ sym h.0.1 in
    record {
      value = tree n.0 v.value w.value;
      nodes = ap (λ (x : ℕ × ℕ). x ∷ (preorder v.value ++ preorder w.value)) (same_pair n.0 n (trees_count v.value) refl rank)
          ∙ ap (λ (xs : List (ℕ × ℕ)). n ∷ (xs ++ preorder w.value)) v.nodes
          ∙ ap (λ (xs : List (ℕ × ℕ)). n ∷ (p.left ++ xs)) w.nodes
          ∙ ap (λ (xs : List (ℕ × ℕ)). n ∷ xs) (sym p.all);
      says = (h.0.0, v.says, w.says);
    }

-- nodes of one tree that is written are the preorder of one tree
pub one_read : (labels : List (List ℕ)) (words : List Word) (is : List Item) (ns : List (ℕ × ℕ)) → IsTree words is → AreNodes labels ns is → IsOneTree ns
one_read labels words is ns t are =
    let v = value_of labels t.tree ns (subst (λ (js : List Item). AreNodes labels ns js) (sym t.nodes) are) in
    let one : trees_count v.value ≡ 1 = count_said labels t.tree v.value v.says ∙ t.one in
    record {
      nested = subst HasChildren v.nodes (HasChildren_of_preorder v.value);
      one = sym (ap (λ (xs : List (ℕ × ℕ)). trees_count (parse xs)) v.nodes) ∙ ap trees_count (parse_of_preorder v.value) ∙ one;
    }

-- a tree with the nodes of what is written is what it says
pub said : (labels : List (List ℕ)) (words : List Word) (is : List Item) (t : Tree ℕ) → IsTree words is → AreNodes labels (preorder_of t) is → SpellsTree labels words t
said labels words is t tree_is are =
    let v = value_of labels tree_is.tree (preorder_of t) (subst (λ (js : List Item). AreNodes labels (preorder_of t) js) (sym tree_is.nodes) are) in
    let p : preorder v.value ≡ preorder (only t) = v.nodes ∙ ap (λ (xs : List (ℕ × ℕ)). (t.label, trees_count t.kids) ∷ xs) (sym (append_nil (preorder t.kids))) in
    let same : v.value ≡ only t = sym (parse_of_preorder v.value) ∙ ap parse p ∙ parse_of_preorder (only t) in
    record { written = tree_is.tree; spelled = tree_is.spelled; says = subst (λ (ts : Trees ℕ). Says labels tree_is.tree ts) same v.says }
