-- The nodes of a tree that were listed, and the trees that remain on a stack.
use Rattle.std.specs.Prelude.{◌≡◌, ℕ, ◌-◌, ◌<◌, ◌≤◌, List, [], ◌∷◌, ◌++◌, length, drop, refl}
use Rattle.std.proofs.Common.{zero, suc, arith, ap, sym, ◌∙◌, subst, inl, inr, get_or, append_assoc}
use Rattle.std.proofs.lemmas.List.{length-append}
use Rattle.std.proofs.Math.Seq.{drop-cons}
use Rattle.tib_lex.proofs.Lists.{append_nil}
use Rattle.tib_lex.specs.Lists.{Has}
use Rattle.tib_lex.proofs.Members.{has_either}
use Rattle.tib_tree.specs.Trees.{Tree, Trees, none, tree, only, size, sizes, count, join, preorder, preorder_of, preorder-join, parse_of, most_nodes}
use Rattle.tib_tree.proofs.Counts.{length-preorder}
use Rattle.tib_tree.proofs.TreeOrder.{only_same}
use Rattle.tib_ranked_trees.specs.Numbers.{AreNamed, IsNamed, NumbersBelow, label_at, children_at, back}
use Rattle.tib_ranked_trees.proofs.Descending.{read_shape, count_named}

-- a list with one more at its end, from its end
pub back_more : (ns : List ℕ) (n : ℕ) → back (ns ++ n ∷ []) ≡ n ∷ back ns
back_more [] n = refl
back_more (m ∷ ns) n = ap (λ ms. ms ++ m ∷ []) (back_more ns n)

pub drop_all : (ns : List ℕ) → drop (length ns) ns ≡ []
drop_all [] = refl
drop_all (n ∷ ns) = drop_all ns

-- one more number on the stack, from the last on
pub stacked :
    (numbers stack now before : List ℕ) (i n : ℕ) → 0 < i → i ≤ length numbers → n ≡ get_or numbers (i - 1) 0 →
    now ≡ stack ++ n ∷ [] → back stack ≡ drop i numbers ++ before → back now ≡ drop (i - 1) numbers ++ before
stacked numbers stack now before (suc i) n p h r e so =
    let d : drop i numbers ≡ get_or numbers i 0 ∷ drop (suc i) numbers = drop-cons numbers i 0 (omega (arith, h)) in
    let k : suc i - 1 ≡ i = omega arith in
    let first : n ≡ get_or numbers i 0 = r ∙ ap (λ j. get_or numbers j 0) k in
    subst (λ j. back now ≡ drop j numbers ++ before) (sym k)
    (ap back e ∙ back_more stack n ∙ ap (λ ms. n ∷ ms) so ∙ ap (λ m. m ∷ (drop (suc i) numbers ++ before)) first ∙ ap (λ ms. ms ++ before) (sym d))
stacked numbers stack now before zero n p h r e so = absurd (omega (arith, p))

-- the numbers on the stack are kept, and so are those below the next one
pub next_below : (k : ℕ) (stack rest : List ℕ) (n : ℕ) → NumbersBelow k (back stack) → stack ≡ rest ++ n ∷ [] → n < k
next_below k stack rest n b e = b n (subst (λ ns. Has ns n) (sym (ap back e ∙ back_more rest n)) (inl refl))

pub stack_below :
    (k : ℕ) (stack rest now : List ℕ) (n : ℕ) (children : List ℕ) → NumbersBelow k (back stack) → stack ≡ rest ++ n ∷ [] → NumbersBelow n children →
    back now ≡ children ++ back rest → NumbersBelow k (back now)
stack_below k stack rest now n children b e low is m h =
    elim (has_either children (back rest) m (subst (λ ns. Has ns m) is h)) [
      | inl c ↦ omega (arith, low m c, next_below k stack rest n b e)
      | inr r ↦ b m (subst (λ ns. Has ns m) (sym (ap back e ∙ back_more rest n)) (inr r))
    ]

-- What is listed of a tree's nodes, and the nodes of the trees on the stack after it, are the
-- tree's.
pub record Remains (shapes : List (List ℕ)) (t : Tree ℕ) (stack : List ℕ) (nodes : List (ℕ × ℕ)) : Type 0 where
  pub trees : Trees ℕ
  pub are_named : AreNamed shapes (back stack) trees
  pub whole : nodes ++ preorder trees ≡ preorder_of t

-- the tree alone remains at first
pub remains_first : (shapes : List (List ℕ)) (n : ℕ) (stack : List ℕ) (t : Tree ℕ) → IsNamed shapes n t → stack ≡ n ∷ [] → Remains shapes t stack []
remains_first shapes n stack t a e = record {
  trees = only t;
  are_named = subst (λ s. AreNamed shapes (back s) (only t)) (sym e) a;
  whole = ap (λ xs. (t.label, count t.kids) ∷ xs) (append_nil (preorder t.kids));
}

join_named : (shapes : List (List ℕ)) (ns ms : List ℕ) (ts us : Trees ℕ) → AreNamed shapes ns ts → AreNamed shapes ms us → AreNamed shapes (ns ++ ms) (join ts us)
join_named shapes [] ms none us a b = b
join_named shapes [] ms (tree f kids rest) us a b = absurd a
join_named shapes (n ∷ ns) ms none us a b = absurd a
join_named shapes (n ∷ ns) ms (tree f kids rest) us a b = (a.0, join_named shapes ns ms rest us a.1 b)

-- the next node of the stack is listed, and its children are put on the stack
pub remains_next :
    (shapes : List (List ℕ)) (t : Tree ℕ) (stack rest now : List ℕ) (nodes more : List (ℕ × ℕ)) (n label rank : ℕ) (children : List ℕ) → Remains shapes t stack nodes →
    stack ≡ rest ++ n ∷ [] → label ≡ label_at shapes n → children ≡ children_at shapes n → rank ≡ length children → more ≡ nodes ++ (label, rank) ∷ [] →
    back now ≡ children ++ back rest → Remains shapes t now more
remains_next shapes t stack rest now nodes more n label rank children r e f k long m b =
    next r.trees (subst (λ s. AreNamed shapes s r.trees) (ap back e ∙ back_more rest n) r.are_named) r.whole
  where
    next : (ts : Trees ℕ) → AreNamed shapes (n ∷ back rest) ts → nodes ++ preorder ts ≡ preorder_of t → Remains shapes t now more
    next none a w = absurd a
    next (tree g kids others) a w =
        let read = read_shape shapes n g a.0.0 a.0.1 in
        let named : AreNamed shapes children kids = subst (λ ms. AreNamed shapes ms kids) (sym (k ∙ read.1)) a.0.2 in
        let node : ◌≡◌ {A = ℕ × ℕ} (label, rank) (g, count kids) = ap (λ l. (l, rank)) (f ∙ read.0) ∙ ap (λ c. (g, c)) (long ∙ sym (count_named shapes children kids named)) in
        record {
          trees = join kids others;
          are_named = subst (λ s. AreNamed shapes s (join kids others)) (sym b) (join_named shapes children (back rest) kids others named a.1);
          whole =
              ap (λ xs. xs ++ preorder (join kids others)) (m ∙ ap (λ x. nodes ++ x ∷ []) node)
              ∙ append_assoc nodes ((g, count kids) ∷ []) (preorder (join kids others))
              ∙ ap (λ xs. nodes ++ (g, count kids) ∷ xs) (preorder-join kids others)
              ∙ w;
        }

-- while the stack has a number, fewer nodes are listed than the tree has
pub remains_few : (shapes : List (List ℕ)) (t : Tree ℕ) (stack rest : List ℕ) (nodes : List (ℕ × ℕ)) (n : ℕ) → Remains shapes t stack nodes → stack ≡ rest ++ n ∷ [] → length nodes < size t
remains_few shapes t stack rest nodes n r e =
    some r.trees (subst (λ s. AreNamed shapes s r.trees) (ap back e ∙ back_more rest n) r.are_named) r.whole
  where
    some : (ts : Trees ℕ) → AreNamed shapes (n ∷ back rest) ts → nodes ++ preorder ts ≡ preorder_of t → length nodes < size t
    some none a w = absurd a
    some (tree g kids others) a w =
        omega (arith, ap length w, length-append nodes (preorder (tree g kids others)), length-append (preorder kids) (preorder others), length-preorder t.kids)

few_count : (ts : Trees ℕ) → count ts ≤ sizes ts
few_count none = omega arith
few_count (tree f kids rest) = omega (arith, few_count rest)

-- and the next node has fewer children
pub remains_narrow :
    (shapes : List (List ℕ)) (t : Tree ℕ) (stack rest : List ℕ) (nodes : List (ℕ × ℕ)) (n : ℕ) (children : List ℕ) → Remains shapes t stack nodes → stack ≡ rest ++ n ∷ [] →
    children ≡ children_at shapes n → length children < size t
remains_narrow shapes t stack rest nodes n children r e k =
    some r.trees (subst (λ s. AreNamed shapes s r.trees) (ap back e ∙ back_more rest n) r.are_named) r.whole
  where
    some : (ts : Trees ℕ) → AreNamed shapes (n ∷ back rest) ts → nodes ++ preorder ts ≡ preorder_of t → length children < size t
    some none a w = absurd a
    some (tree g kids others) a w =
        let read = read_shape shapes n g a.0.0 a.0.1 in
        let named : AreNamed shapes children kids = subst (λ ms. AreNamed shapes ms kids) (sym (k ∙ read.1)) a.0.2 in
        omega (arith, count_named shapes children kids named, few_count kids, ap length w, length-append nodes (preorder (tree g kids others)), length-append (preorder kids) (preorder others), length-preorder kids, length-preorder t.kids)

-- where nothing remains, all nodes are listed
pub remains_none : (shapes : List (List ℕ)) (t : Tree ℕ) (stack : List ℕ) (nodes : List (ℕ × ℕ)) → Remains shapes t stack nodes → stack ≡ [] → nodes ≡ preorder_of t
remains_none shapes t stack nodes r e = all r.trees (subst (λ s. AreNamed shapes (back s) r.trees) e r.are_named) r.whole
  where
    all : (ts : Trees ℕ) → AreNamed shapes [] ts → nodes ++ preorder ts ≡ preorder_of t → nodes ≡ preorder_of t
    all none a w = sym (append_nil nodes) ∙ w
    all (tree g kids others) a w = absurd a

pub length-preorder_of : (t : Tree ℕ) → length (preorder_of t) ≡ size t
length-preorder_of t = omega (arith, length-preorder t.kids)

-- the nodes are one tree's
pub one_preorder : (s t : Tree ℕ) → preorder_of s ≡ preorder_of t → s ≡ t
one_preorder s t e = only_same s t (sym (parse_of s) ∙ ap Rattle.tib_tree.specs.Trees.parse e ∙ parse_of t)
