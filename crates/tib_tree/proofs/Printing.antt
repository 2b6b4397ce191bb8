-- The text of a tree, as it is printed node by node.
use Rattle.std.proofs.Common.{◌≡◌, ℕ, ◌+◌, ◌-◌, ◌<◌, ◌≤◌, true, false, List, [], ◌∷◌, ◌++◌, length, get_or, drop, take, drop-cons, refl, ap, sym, ◌∙◌, subst, arith, append_assoc, zero, suc}
use Rattle.std.specs.Prelude.{nat_lt, replicate}
use Rattle.std.proofs.lemmas.Bool.Decides.{nat_tests}
use Rattle.tib_tree.specs.Trees.{Tree, Trees, none, tree, only}
use Rattle.tib_tree.specs.Filled.{nodes_at, nodes_of_tree}
use Rattle.tib_tree.specs.Growth.{text_at, LabelsBelow}
use Rattle.tib_tree.specs.Printed.{text_from, label_text, gap_text, in_parentheses, behind_space, trees_text, tree_text}
use Rattle.tib_tree.specs.declared.preorder.Node.{Node}
use Rattle.std.specs.Prelude.{Result, Ok, Err, Some, slice_get}
use Rattle.std.proofs.lemmas.Option.{get_or_from_slice_get}
use Rattle.std.specs.List.{All}
use Rattle.std.proofs.lemmas.List.{drop_all, take_all, length-drop}
use Rattle.std.proofs.lemmas.List.Elements.{All-nil, All-cons, All-append, All-drop}
use Rattle.tib_io.specs.Writes.{SinkSeen}
use Rattle.tib_io.specs.Wrote.{Wrote}
use Rattle.tib_tree.proofs.Writing.{HasWritten, no_failure, wrote_none, goes_on, joined, stopped}

abbrev closes : ℕ → List ℕ
closes n = replicate n 41

-- the next node is no deeper than this
abbrev NoDeeper : ℕ → List Node → Type 0
NoDeeper d [] = Unit {0}
NoDeeper d (n ∷ ns) = n.depth ≤ d

closes_more : (m n : ℕ) → closes m ++ closes n ≡ closes (m + n)
closes_more zero n = let e : 0 + n ≡ n = omega arith in ap closes (sym e)
closes_more (suc m) n = let e : suc m + n ≡ suc (m + n) = omega arith in ap (λ (l : List ℕ). 41 ∷ l) (closes_more m n) ∙ ap closes (sym e)

gap_back : (above depth : ℕ) → depth ≤ above → gap_text above depth ≡ closes (above - depth) ++ 32 ∷ []
gap_back above depth h = let e : nat_lt above depth ≡ false = grind (arith, nat_tests) in rw e refl

gap_in : (depth : ℕ) → gap_text depth (suc depth) ≡ 40 ∷ []
gap_in depth = let e : nat_lt depth (suc depth) ≡ true = grind (arith, nat_tests) in rw e refl

gap_beside : (depth : ℕ) → gap_text depth depth ≡ 32 ∷ []
gap_beside depth = let e : depth - depth ≡ 0 = omega arith in gap_back depth depth (omega arith) ∙ ap (λ (n : ℕ). closes n ++ 32 ∷ []) e

-- parentheses close before what is no deeper
closes_first : (labels : List (List ℕ)) (m n : ℕ) (ns : List Node) → NoDeeper n ns → text_from labels (m + n) ns ≡ closes m ++ text_from labels n ns
closes_first labels m n [] h = sym (closes_more m n)
closes_first labels m n (x ∷ ns) h =
    let e : m + n - x.depth ≡ m + (n - x.depth) = omega arith in
    let one : gap_text (m + n) x.depth ≡ closes m ++ gap_text n x.depth =
    gap_back (m + n) x.depth (omega arith) ∙ ap (λ (k : ℕ). closes k ++ 32 ∷ []) e ∙ ap (λ (l : List ℕ). l ++ 32 ∷ []) (sym (closes_more m (n - x.depth)))
    ∙ append_assoc (closes m) (closes (n - x.depth)) (32 ∷ []) ∙ ap (λ (l : List ℕ). closes m ++ l) (sym (gap_back n x.depth h)) in
    ap (λ (l : List ℕ). (l ++ label_text (text_at labels x.label)) ++ text_from labels x.depth ns) one
    ∙ ap (λ (l : List ℕ). l ++ text_from labels x.depth ns) (append_assoc (closes m) (gap_text n x.depth) (label_text (text_at labels x.label)))
    ∙ append_assoc (closes m) (gap_text n x.depth ++ label_text (text_at labels x.label)) (text_from labels x.depth ns)

no_deeper : (d : ℕ) (ts : Trees ℕ) (rest : List Node) → NoDeeper d rest → NoDeeper d (nodes_at d ts ++ rest)
no_deeper d none rest h = h
no_deeper d (tree f kids more) rest h = omega arith

deeper : (d : ℕ) (ns : List Node) → NoDeeper d ns → NoDeeper (suc d) ns
deeper d [] h = tt
deeper d (n ∷ ns) h = omega arith

-- trees after a node are printed as their text
abbrev Printed : List (List ℕ) → Trees ℕ → Type 0
Printed labels none = Unit {0}
Printed labels (tree f kids more) =
    (above d : ℕ) (rest : List Node) → NoDeeper d rest → text_from labels above (nodes_at d (tree f kids more) ++ rest) ≡ (gap_text above d ++ trees_text labels (tree f kids more)) ++ text_from labels d rest

-- children after their node
children_printed : (labels : List (List ℕ)) (d : ℕ) (kids : Trees ℕ) (rest : List Node) → Printed labels kids → NoDeeper d rest → text_from labels d (nodes_at (suc d) kids ++ rest) ≡ in_parentheses kids (trees_text labels kids) ++ text_from labels d rest
children_printed labels d none rest p h = refl
children_printed labels d (tree f kids more) rest p h =
    let one : suc d ≡ 1 + d = omega arith in
    p d (suc d) rest (deeper d rest h)
    ∙ ap (λ (l : List ℕ). (l ++ trees_text labels (tree f kids more)) ++ text_from labels (suc d) rest) (gap_in d)
    ∙ ap (λ (k : ℕ). (40 ∷ trees_text labels (tree f kids more)) ++ text_from labels k rest) one
    ∙ ap (λ (l : List ℕ). (40 ∷ trees_text labels (tree f kids more)) ++ l) (closes_first labels 1 d rest h)
    ∙ sym (append_assoc (40 ∷ trees_text labels (tree f kids more)) (41 ∷ []) (text_from labels d rest))

-- the trees after one
beside_printed : (labels : List (List ℕ)) (d : ℕ) (more : Trees ℕ) (rest : List Node) → Printed labels more → NoDeeper d rest → text_from labels d (nodes_at d more ++ rest) ≡ behind_space more (trees_text labels more) ++ text_from labels d rest
beside_printed labels d none rest p h = refl
beside_printed labels d (tree f kids more) rest p h =
    p d d rest h ∙ ap (λ (l : List ℕ). (l ++ trees_text labels (tree f kids more)) ++ text_from labels d rest) (gap_beside d)

one_printed : (labels : List (List ℕ)) (f : ℕ) (kids more : Trees ℕ) → Printed labels kids → Printed labels more → Printed labels (tree f kids more)
one_printed labels f kids more p q = λ above d rest h.
    let name : List ℕ = label_text (text_at labels f) in
    let inner : List ℕ = in_parentheses kids (trees_text labels kids) in
    let behind : List ℕ = behind_space more (trees_text labels more) in
    let left : List ℕ = text_from labels d rest in
    ap (λ (ns : List Node). (gap_text above d ++ name) ++ text_from labels d ns) (append_assoc (nodes_at (suc d) kids) (nodes_at d more) rest)
    ∙ ap (λ (l : List ℕ). (gap_text above d ++ name) ++ l) (children_printed labels d kids (nodes_at d more ++ rest) p (no_deeper d more rest h) ∙ ap (λ (l : List ℕ). inner ++ l) (beside_printed labels d more rest q h))
    ∙ append_assoc (gap_text above d) name (inner ++ (behind ++ left))
    ∙ ap (λ (l : List ℕ). gap_text above d ++ (name ++ l)) (sym (append_assoc inner behind left))
    ∙ ap (λ (l : List ℕ). gap_text above d ++ l) (sym (append_assoc name (inner ++ behind) left))
    ∙ sym (append_assoc (gap_text above d) (name ++ (inner ++ behind)) left)

printed : (labels : List (List ℕ)) (ts : Trees ℕ) → Printed labels ts
printed labels none = tt
printed labels (tree f kids more) = one_printed labels f kids more (printed labels kids) (printed labels more)

-- one more node
pub printed_step : (labels : List (List ℕ)) (above : ℕ) (nodes : List Node) (i : ℕ) (d : Node) (text : List ℕ) → i < length nodes → text_from labels above (drop i nodes) ≡ (gap_text above (get_or nodes i d).depth ++ label_text (text_at labels (get_or nodes i d).label)) ++ text_from labels (get_or nodes i d).depth (drop (i + 1) nodes)
printed_step labels above nodes i d text h = let s : i + 1 ≡ suc i = omega arith in rw (s, drop-cons nodes i d) refl

-- what was printed so far
pub record SoFar (labels : List (List ℕ)) (a b : SinkSeen) (above : ℕ) (left all : List Node) : Type 0 where
  pub text : List ℕ
  pub wrote : HasWritten a b text
  pub whole : text ++ text_from labels above left ≡ text_from labels 0 all

pub starts : (labels : List (List ℕ)) (a : SinkSeen) (all : List Node) → SoFar labels a a 0 all all
starts labels a all = record { text = []; wrote = wrote_none a; whole = refl }

pub next : {T E : Type 0} (labels : List (List ℕ)) (a b c : SinkSeen) (above i : ℕ) (d : Node) (all : List Node) (done : T) (r : Result T E) → i < length all → r ≡ Ok done → SoFar labels a b above (drop i all) all → Wrote b c (gap_text above (get_or all i d).depth ++ label_text (text_at labels (get_or all i d).label)) r → SoFar labels a c (get_or all i d).depth (drop (i + 1) all) all
next labels a b c above i d all done r lt is so piece =
    let one : List ℕ = gap_text above (get_or all i d).depth ++ label_text (text_at labels (get_or all i d).label) in
    record {
      text = so.text ++ one;
      wrote = goes_on a b c so.text one (so.text ++ one) done r is refl so.wrote piece;
      whole = append_assoc so.text one (text_from labels (get_or all i d).depth (drop (i + 1) all)) ∙ ap (λ (l : List ℕ). so.text ++ l) (sym (printed_step labels above all i d [] lt)) ∙ so.whole;
    }

pub fails : {T D S E : Type 0} (labels : List (List ℕ)) (a b c : SinkSeen) (above i : ℕ) (d : Node) (all : List Node) (e : D) (k : E) (q : Result T D) (r : Result S E) → i < length all → q ≡ Err e → r ≡ Err k → SoFar labels a b above (drop i all) all → Wrote b c (gap_text above (get_or all i d).depth ++ label_text (text_at labels (get_or all i d).label)) q → Wrote a c (text_from labels 0 all) r
fails labels a b c above i d all e k q r lt is failed so piece =
    let one : List ℕ = gap_text above (get_or all i d).depth ++ label_text (text_at labels (get_or all i d).label) in
    let left : List ℕ = text_from labels (get_or all i d).depth (drop (i + 1) all) in
    stopped a b c so.text one left (text_from labels 0 all) e k q r is failed
    (append_assoc so.text one left ∙ ap (λ (l : List ℕ). so.text ++ l) (sym (printed_step labels above all i d [] lt)) ∙ so.whole) so.wrote piece

pub closes_all : {T E : Type 0} (labels : List (List ℕ)) (a b c : SinkSeen) (above i : ℕ) (all : List Node) (r : Result T E) → length all ≤ i → SoFar labels a b above (drop i all) all → Wrote b c (replicate above 41) r → Wrote a c (text_from labels 0 all) r
closes_all labels a b c above i all r le so piece =
    joined a b c so.text (replicate above 41) (text_from labels 0 all) tt no_failure r refl
    (ap (λ (ns : List Node). so.text ++ text_from labels above ns) (sym (drop_all i all le)) ∙ so.whole) so.wrote piece

-- the labels of a tree's nodes are in the table
below_at : (n d : ℕ) (ts : Trees ℕ) → LabelsBelow n ts → All (λ x. x.label < n) (nodes_at d ts)
below_at n d none h = All-nil (λ x. x.label < n)
below_at n d (tree f kids rest) h =
    All-cons (λ x. x.label < n) _ _ h.0 (All-append (λ x. x.label < n) (nodes_at (suc d) kids) (nodes_at d rest) (below_at n (suc d) kids h.1) (below_at n d rest h.2))

-- what is printed is the text of the tree
tree_printed : (labels : List (List ℕ)) (t : Tree ℕ) → label_text (text_at labels t.label) ++ text_from labels 0 (nodes_at 1 t.kids ++ []) ≡ tree_text labels t
tree_printed labels t = ap (λ (l : List ℕ). label_text (text_at labels t.label) ++ l) (children_printed labels 0 t.kids [] (printed labels t.kids) tt)

behind_root : (t : Tree ℕ) (nodes : List Node) → nodes ≡ nodes_of_tree t → take (length nodes - 1) (drop 1 nodes) ≡ nodes_at 1 t.kids ++ []
behind_root t nodes e = take_all (length nodes - 1) (drop 1 nodes) (omega (arith, length-drop 1 nodes)) ∙ ap (drop 1) e

root_label : (t : Tree ℕ) (nodes : List Node) (d : Node) → nodes ≡ nodes_of_tree t → (get_or nodes 0 d).label ≡ t.label
root_label t nodes d e = ap (λ (ns : List Node). (get_or ns 0 d).label) e

pub tree_whole : (labels : List (List ℕ)) (t : Tree ℕ) (nodes : List Node) (d : Node) (text : List ℕ) → nodes ≡ nodes_of_tree t → slice_get labels (get_or nodes 0 d).label ≡ Some text → label_text text ++ text_from labels 0 (take (length nodes - 1) (drop 1 nodes)) ≡ tree_text labels t
tree_whole labels t nodes d text e found =
    let l : text ≡ text_at labels t.label = sym (get_or_from_slice_get labels (get_or nodes 0 d).label text [] found) ∙ ap (text_at labels) (root_label t nodes d e) in
    ap (λ (x : List ℕ). label_text x ++ text_from labels 0 (take (length nodes - 1) (drop 1 nodes))) l
    ∙ ap (λ (ns : List Node). label_text (text_at labels t.label) ++ text_from labels 0 ns) (behind_root t nodes e)
    ∙ tree_printed labels t

pub labels_below : (n : ℕ) (t : Tree ℕ) (nodes : List Node) → nodes ≡ nodes_of_tree t → LabelsBelow n (only t) → All (λ x. x.label < n) (take (length nodes - 1) (drop 1 nodes))
labels_below n t nodes e h =
    subst (λ (ns : List Node). All (λ x. x.label < n) ns) (sym (behind_root t nodes e)) (All-drop (λ x. x.label < n) 1 (nodes_of_tree t) (below_at n 0 (only t) h))
