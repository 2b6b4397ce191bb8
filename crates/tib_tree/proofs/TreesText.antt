-- The function that says what a file holds, and the text of trees.
use Rattle.std.proofs.Common.{◌≡◌, ℕ, ◌<◌, ◌≤◌, inl, inr, Bool, true, false, List, [], ◌∷◌, ◌++◌, length, refl, ap, sym, ◌∙◌, subst, arith, Option, suc}
use Rattle.std.specs.Prelude.{Some, None, Result, Ok, Err, nat_lt, cond}
use Rattle.std.specs.Global.{Vec}
use Rattle.std.proofs.lemmas.Bool.Decides.{nat_tests}
use Rattle.tib_lex.specs.Grammar.{Word, HasWords, HasBadToken}
use Rattle.tib_lex.specs.Line.{words_of}
use Rattle.tib_lex.specs.Lines.{lines_of, front, with_line, each_line}
use Rattle.tib_lex.specs.Lists.{Each}
use Rattle.tib_lex.specs.declared.fault.FaultKind.{FaultKind}
use Rattle.tib_lex.specs.declared.fault.FaultKind.TheVariants as kinds
use Rattle.tib_lex.specs.declared.fault.FileFault.{FileFault}
use Rattle.tib_lex.specs.declared.fault.ReadError.{ReadError}
use Rattle.tib_lex.specs.declared.fault.ReadError.TheVariants as errors
use Rattle.tib_lex.proofs.HasWords.{words_read, words_had, bad_read, bad_had, words_once}
use Rattle.tib_tree.specs.Trees.{Tree, Trees, none, tree, only, size, preorder, preorder_of, parse, parse_of_preorder, first_of, count as trees_count}
use Rattle.tib_tree.specs.Written.{Written, end, leaf, head, spell, count, Item, items}
use Rattle.tib_tree.specs.Machine.{nodes_of, IsTree}
use Rattle.tib_tree.specs.Nodes.{AreNodes}
use Rattle.tib_tree.specs.Meaning.{Says, IsTreeLine}
use Rattle.tib_tree.specs.Lines.{tree_line, tree_in, small_tree}
use Rattle.tib_tree.specs.File.{trees_of, AreTrees, IsFile}
use Rattle.std.specs.Prelude.{IfOk}
use Rattle.std.proofs.lemmas.Option.{slice_get_within}
use Rattle.tib_tree.specs.Growth.{LabelsBelow, HasLabels}
use Rattle.tib_tree.specs.Grows.{AreDistinct}
use Rattle.tib_lex.specs.FirstFault.{FirstFault}
use Rattle.tib_lex.proofs.FirstFaults.{Fits, fault_found as found_first, fault_is as first_found}
use Rattle.tib_tree.specs.TreesText.{HasTrees, TreesText, IsSmall, NoTree, HasNodes, HasFault, LineHolds, IsGood, IsFirstFault, ReadsTrees}
use Rattle.tib_tree.proofs.Read.{tree_back, tree_forth}
use Rattle.tib_tree.proofs.Values.{count_said, said}
use Rattle.tib_lex.proofs.Lists.{append_nil, some_same}
use Rattle.tib_tree.specs.Trees.{most_nodes}
use Rattle.tib_tree.proofs.Counts.{length-preorder}

-- one line
held_tree : (line : List ℕ) (is : List Item) (b : Bool) → HasNodes line is → nat_lt most_nodes (length is) ≡ b → LineHolds line (cond b (Err kinds.TooManyNodes) (Ok (Some is)))
held_tree line is true h e = record { nodes = is; tree = h; many = grind (arith, nat_tests) }
held_tree line is false h e = let few : length is ≤ most_nodes = grind (arith, nat_tests) in (h, few)

held_words : (line : List ℕ) (word : Word) (words : List Word) (o : Option (List Item)) → HasWords (word ∷ words) line → nodes_of (word ∷ words) ≡ o → LineHolds line (small_tree o)
held_words line word words None h e = record {
  word = word;
  words = words;
  has = h;
  none = λ nodes t. let bad : None ≡ Some nodes = sym e ∙ (sym (ap nodes_of t.spelled) ∙ tree_forth t.tree t.one ∙ ap Some t.nodes) in absurd (cc);
}
held_words line word words (Some is) h e = held_tree line is (nat_lt most_nodes (length is)) (record { words = word ∷ words; has = h; tree = tree_back (word ∷ words) is e }) refl

held : (line : List ℕ) (o : Option (List Word)) → words_of line ≡ o → LineHolds line (tree_in o)
held line None e = bad_had line e
held line (Some []) e = words_had [] line e
held line (Some (word ∷ words)) e = held_words line word words (nodes_of (word ∷ words)) (words_had (word ∷ words) line e) refl

pub line_holds : (line : List ℕ) → LineHolds line (tree_line line)
unfolding tree_line
line_holds line = held line (words_of line) refl

-- no tokens have no nodes
pub no_nodes : (is : List Item) → nodes_of [] ≡ Some is → ⊥
unfolding nodes_of
no_nodes is e = let bad : None ≡ Some is = e in cc

read_of : (words : List Word) (is : List Item) → IsTree words is → nodes_of words ≡ Some is
read_of words is t = sym (ap nodes_of t.spelled) ∙ tree_forth t.tree t.one ∙ ap Some t.nodes

line_of : (line : List ℕ) (words : List Word) (is : List Item) (o : Result (Option (List Item)) FaultKind) → HasWords words line → IsTree words is → small_tree (Some is) ≡ o → tree_line line ≡ o
unfolding tree_line
line_of line [] is o h t e = absurd (no_nodes is (read_of [] is t))
line_of line (word ∷ words) is o h t e = rw (words_read (word ∷ words) line h, read_of (word ∷ words) is t) e

few_nodes : (is : List Item) → length is ≤ most_nodes → small_tree (Some is) ≡ Ok (Some is)
few_nodes is h = let e : nat_lt most_nodes (length is) ≡ false = grind (arith, nat_tests) in rw e refl

many_nodes : (is : List Item) → most_nodes < length is → small_tree (Some is) ≡ Err kinds.TooManyNodes
many_nodes is h = let e : nat_lt most_nodes (length is) ≡ true = grind (arith, nat_tests) in rw e refl

no_tree_of : (words : List Word) (o : Option (List Item)) → ((nodes : List Item) → IsTree words nodes → ⊥) → nodes_of words ≡ o → nodes_of words ≡ None
no_tree_of words None h e = e
no_tree_of words (Some is) h e = absurd (h is (tree_back words is e))

blank_of : (line : List ℕ) → HasWords [] line → tree_line line ≡ Ok None
unfolding tree_line
blank_of line h = rw (words_read [] line h) refl

bad_of : (line : List ℕ) → HasBadToken line → tree_line line ≡ Err kinds.BadToken
unfolding tree_line
bad_of line h = rw (bad_read h.0 line h.1) refl

none_of : (line : List ℕ) → NoTree line → tree_line line ≡ Err kinds.BadTree
unfolding tree_line
none_of line h = rw (words_read (h.word ∷ h.words) line h.has, no_tree_of (h.word ∷ h.words) (nodes_of (h.word ∷ h.words)) h.none refl) refl

pub line_is : (line : List ℕ) (r : Result (Option (List Item)) FaultKind) → LineHolds line r → tree_line line ≡ r
line_is line (Ok None) h = blank_of line h
line_is line (Ok (Some is)) h = line_of line h.0.words is (Ok (Some is)) h.0.has h.0.tree (few_nodes is h.1)
line_is line (Err kinds.BadToken) h = bad_of line h
line_is line (Err kinds.BadTree) h = none_of line h
line_is line (Err kinds.TooManyNodes) h = line_of line h.tree.words h.nodes (Err kinds.TooManyNodes) h.tree.has h.tree.tree (many_nodes h.nodes h.many)
line_is line (Err kinds.NoStart) h = absurd h
line_is line (Err kinds.BadRule) h = absurd h
line_is line (Err kinds.LoneVariable) h = absurd h
line_is line (Err kinds.VariableTwice) h = absurd h
line_is line (Err kinds.BadString) h = absurd h
line_is line (Err kinds.UnknownVariable) h = absurd h
line_is line (Err kinds.NotWhole) h = absurd h
line_is line (Err kinds.WeightTooLarge) h = absurd h

fits : (line : List ℕ) (r : Result (Option (List Item)) FaultKind) → LineHolds line r → Fits IsGood HasFault line r
fits line (Ok holds) h = (holds, h)
fits line (Err kind) h = h

pub fault_found : (n : ℕ) (lines : List (List ℕ)) (fault : FileFault) → each_line tree_line n lines ≡ Err fault → FirstFault IsGood HasFault n lines fault
fault_found n lines fault = found_first tree_line IsGood HasFault (λ line. fits line (tree_line line) (line_holds line)) n lines fault

pub fault_is : (n : ℕ) (lines : List (List ℕ)) (fault : FileFault) → FirstFault IsGood HasFault n lines fault → each_line tree_line n lines ≡ Err fault
fault_is n lines fault = first_found tree_line IsGood HasFault (λ line h. (h.0, line_is line (Ok h.0) h.1)) (λ line kind h. line_is line (Err kind) h) n lines fault

same_length : (labels : List (List ℕ)) (ns : List (ℕ × ℕ)) (is : List Item) → AreNodes labels ns is → length ns ≡ length is
same_length labels [] [] h = refl
same_length labels [] (i ∷ is) h = absurd h
same_length labels (n ∷ ns) [] h = absurd h
same_length labels (n ∷ ns) (i ∷ is) h = ap suc (same_length labels ns is h.1)

size_of : (labels : List (List ℕ)) (t : Tree ℕ) (is : List Item) → AreNodes labels (preorder_of t) is → size t ≡ length is
size_of labels t is h = ap suc (sym (length-preorder t.kids)) ∙ same_length labels (preorder_of t) is h

front_ok : {X F : Type 0} (x : X) (r : Result (List X) F) (all : List X) → front (x ∷ []) r ≡ Ok all → (more : List X) × (r ≡ Ok more) × (all ≡ x ∷ more)
front_ok x (Ok more) all e = (more, refl, cc)
front_ok x (Err f) all e = let bad : Err f ≡ Ok all = e in absurd (cc)

abbrev pub Texts : List (List ℕ) → List (List ℕ) → List (Tree ℕ) → Type 0
Texts labels lines ts = HasTrees labels lines ts × Each IsSmall ts

text_tree : (labels : List (List ℕ)) (line : List ℕ) (lines : List (List ℕ)) (ts : List (Tree ℕ)) (is : List Item) (iss : List (List Item)) → LineHolds line (Ok (Some is)) → AreTrees labels ts (is ∷ iss) → ((us : List (Tree ℕ)) → AreTrees labels us iss → Texts labels lines us) → Texts labels (line ∷ lines) ts
text_tree labels line lines [] is iss h are ih = absurd are
text_tree labels line lines (t ∷ ts) is iss h are ih =
    let more = ih ts are.1 in (
      inr (t, ts, refl, record { words = h.0.words; has = h.0.has; spells = said labels h.0.words is t h.0.tree are.0 }, more.0),
      (omega (arith, size_of labels t is are.0, h.1), more.1),
    )

text_at : (labels : List (List ℕ)) (n : ℕ) (line : List ℕ) (lines : List (List ℕ)) (ts : List (Tree ℕ)) (iss : List (List Item)) (r : Result (Option (List Item)) FaultKind) (more : Result (List (List Item)) FileFault) → LineHolds line r → with_line n r more ≡ Ok iss → AreTrees labels ts iss → ((us : List (Tree ℕ)) (jss : List (List Item)) → more ≡ Ok jss → AreTrees labels us jss → Texts labels lines us) → Texts labels (line ∷ lines) ts
text_at labels n line lines ts iss (Err kind) more h e are ih = let bad : Err (record { line = n; kind = kind }) ≡ Ok iss = e in absurd (cc)
text_at labels n line lines ts iss (Ok None) more h e are ih = let t = ih ts iss e are in (inl (h, t.0), t.1)
text_at labels n line lines ts iss (Ok (Some is)) more h e are ih =
    let f = front_ok is more iss e in
    text_tree labels line lines ts is f.0 h (subst (λ (x : List (List Item)). AreTrees labels ts x) f.2 are) (λ us a. ih us f.0 f.1 a)

pub text_found : (labels : List (List ℕ)) (n : ℕ) (lines : List (List ℕ)) (ts : List (Tree ℕ)) (iss : List (List Item)) → each_line tree_line n lines ≡ Ok iss → AreTrees labels ts iss → Texts labels lines ts
text_found labels n [] [] iss e are = (refl, tt)
text_found labels n [] (t ∷ ts) [] e are = absurd are
text_found labels n [] (t ∷ ts) (is ∷ iss) e are = let bad : [] ≡ is ∷ iss = cc in absurd (cc)
text_found labels n (line ∷ lines) ts iss e are = text_at labels n line lines ts iss (tree_line line) (each_line tree_line (suc n) lines) (line_holds line) e are (λ us jss f a. text_found labels (suc n) lines us jss f a)

-- what a reader returns
pub reads : (labels : List (List ℕ)) (bytes : List ℕ) (r : Result (Vec (Tree ℕ)) ReadError) → IsFile labels r (trees_of bytes) → ReadsTrees labels bytes r
unfolding trees_of
reads labels bytes (Ok trees) (iss, e, are) = text_found labels 1 (lines_of bytes) trees.items iss e are
reads labels bytes (Err (errors.Fault fault)) e = fault_found 1 (lines_of bytes) fault e
reads labels bytes (Err errors.OutOfMemory) e = tt

-- the other way
append_nodes : (labels : List (List ℕ)) (ns ms : List (ℕ × ℕ)) (is js : List Item) → AreNodes labels ns is → AreNodes labels ms js → AreNodes labels (ns ++ ms) (is ++ js)
append_nodes labels [] ms [] js h k = k
append_nodes labels [] ms (i ∷ is) js h k = absurd h
append_nodes labels (n ∷ ns) ms [] js h k = absurd h
append_nodes labels (n ∷ ns) ms (i ∷ is) js h k = (h.0, append_nodes labels ns ms is js h.1 k)

pub said_nodes : (labels : List (List ℕ)) (w : Written) (ts : Trees ℕ) → Says labels w ts → AreNodes labels (preorder ts) (items w)
said_nodes labels end none h = tt
said_nodes labels end (tree f kids rest) h = absurd h
said_nodes labels (leaf q t more) none h = absurd h
said_nodes labels (leaf q t more) (tree f none rest) h = ((h.0, refl), said_nodes labels more rest h.1)
said_nodes labels (leaf q t more) (tree f (tree g kids others) rest) h = absurd h
said_nodes labels (head q t inner more) none h = absurd h
said_nodes labels (head q t inner more) (tree f kids rest) h =
    ((h.0, count_said labels inner kids h.1), append_nodes labels (preorder kids) (preorder rest) (items inner) (items more) (said_nodes labels inner kids h.1) (said_nodes labels more rest h.2))

one_tree_nodes : (labels : List (List ℕ)) (w : Written) (t : Tree ℕ) → Says labels w (only t) → AreNodes labels (preorder_of t) (items w)
one_tree_nodes labels w t h =
    subst (λ (ns : List (ℕ × ℕ)). AreNodes labels ns (items w)) (ap (λ (ns : List (ℕ × ℕ)). (t.label, trees_count t.kids) ∷ ns) (append_nil (preorder t.kids))) (said_nodes labels w (only t) h)

tree_held : (labels : List (List ℕ)) (line : List ℕ) (t : Tree ℕ) (h : IsTreeLine labels line t) → HasNodes line (items h.spells.written)
tree_held labels line t h = record {
  words = h.words;
  has = h.has;
  tree = record { tree = h.spells.written; spelled = h.spells.spelled; one = sym (count_said labels h.spells.written (only t) h.spells.says); nodes = refl };
}

same_size : (labels : List (List ℕ)) (line : List ℕ) (t : Tree ℕ) (h : IsTreeLine labels line t) → IsSmall t → length (items h.spells.written) ≤ most_nodes
same_size labels line t h small = omega (arith, size_of labels t (items h.spells.written) (one_tree_nodes labels h.spells.written t h.spells.says), small)

pub text_read : (labels : List (List ℕ)) (n : ℕ) (lines : List (List ℕ)) (ts : List (Tree ℕ)) → HasTrees labels lines ts → Each IsSmall ts → (iss : List (List Item)) × (each_line tree_line n lines ≡ Ok iss) × AreTrees labels ts iss
text_read labels n [] ts h small = ([], refl, subst (λ (us : List (Tree ℕ)). AreTrees labels us []) (sym h) tt)
text_read labels n (line ∷ lines) ts (inl (blank, more)) small =
    let r = text_read labels (suc n) lines ts more small in
    (r.0, ap (λ x. with_line n x (each_line tree_line (suc n) lines)) (blank_of line blank) ∙ r.1, r.2)
text_read labels n (line ∷ lines) ts (inr (t, us, e, is, more)) small =
    let each : Each IsSmall (t ∷ us) = subst (λ (vs : List (Tree ℕ)). Each IsSmall vs) e small in
    let r = text_read labels (suc n) lines us more each.1 in
    let w : Written = is.spells.written in
    let held_line : tree_line line ≡ Ok (Some (items w)) = line_is line (Ok (Some (items w))) (tree_held labels line t is, same_size labels line t is each.0) in (
      items w ∷ r.0,
      ap (λ x. with_line n x (each_line tree_line (suc n) lines)) held_line ∙ ap (front (items w ∷ [])) r.1,
      subst (λ (vs : List (Tree ℕ)). AreTrees labels vs (items w ∷ r.0)) (sym e) (one_tree_nodes labels w t is.spells.says, r.2),
    )

-- one text is that of one list of trees
nodes_once : (labels : List (List ℕ)) (ns ms : List (ℕ × ℕ)) (is : List Item) → AreDistinct labels → AreNodes labels ns is → AreNodes labels ms is → ns ≡ ms
nodes_once labels [] [] [] d h k = refl
nodes_once labels (n ∷ ns) ms [] d h k = absurd h
nodes_once labels [] (m ∷ ms) [] d h k = absurd k
nodes_once labels [] ms (i ∷ is) d h k = absurd h
nodes_once labels (n ∷ ns) [] (i ∷ is) d h k = absurd k
nodes_once labels (n ∷ ns) (m ∷ ms) (i ∷ is) d h k =
    let l : n.0 ≡ m.0 = d.once n.0 m.0 i.text h.0.0 k.0.0 in
    let r : n.1 ≡ m.1 = h.0.1 ∙ sym k.0.1 in
    let same : ◌≡◌ {A = ℕ × ℕ} n m = ap {A = ℕ} {B = ℕ × ℕ} (λ x. (x, n.1)) l ∙ ap {A = ℕ} {B = ℕ × ℕ} (λ x. (m.0, x)) r in
    ap (λ (x : ℕ × ℕ). x ∷ ns) same ∙ ap (λ (xs : List (ℕ × ℕ)). m ∷ xs) (nodes_once labels ns ms is d h.1 k.1)

tree_again : (t u : Tree ℕ) → preorder_of t ≡ preorder_of u → t ≡ u
tree_again t u e =
    let p : preorder (only t) ≡ preorder (only u) =
    ap (λ (ns : List (ℕ × ℕ)). (t.label, trees_count t.kids) ∷ ns) (append_nil (preorder t.kids)) ∙ e ∙ sym (ap (λ (ns : List (ℕ × ℕ)). (u.label, trees_count u.kids) ∷ ns) (append_nil (preorder u.kids))) in
    let o : only t ≡ only u = sym (parse_of_preorder (only t)) ∙ ap parse p ∙ parse_of_preorder (only u) in
    ap (first_of 0) o

nodes_same : (words : List Word) (w v : Written) → count w ≡ 1 → count v ≡ 1 → spell w ≡ words → spell v ≡ words → items w ≡ items v
nodes_same words w v one un e f = some_same (items w) (items v) (sym (tree_forth w one) ∙ ap nodes_of (e ∙ sym f) ∙ tree_forth v un)

line_once : (labels : List (List ℕ)) (line : List ℕ) (t u : Tree ℕ) → AreDistinct labels → IsTreeLine labels line t → IsTreeLine labels line u → t ≡ u
line_once labels line t u d h k =
    let w : Written = h.spells.written in
    let v : Written = k.spells.written in
    let same : items w ≡ items v = nodes_same h.words w v (sym (count_said labels w (only t) h.spells.says)) (sym (count_said labels v (only u) k.spells.says)) h.spells.spelled (k.spells.spelled ∙ words_once line k.words h.words k.has h.has) in
    tree_again t u (nodes_once labels (preorder_of t) (preorder_of u) (items v) d (subst (λ (is : List Item). AreNodes labels (preorder_of t) is) same (one_tree_nodes labels w t h.spells.says)) (one_tree_nodes labels v u k.spells.says))

-- a line without tokens is no tree
not_blank : (labels : List (List ℕ)) (line : List ℕ) (t : Tree ℕ) → HasWords [] line → IsTreeLine labels line t → ⊥
not_blank labels line t blank h =
    no_nodes (items h.spells.written)
    (ap nodes_of (words_once line [] h.words blank h.has ∙ sym h.spells.spelled) ∙ tree_forth h.spells.written (sym (count_said labels h.spells.written (only t) h.spells.says)))

pub text_once : (labels : List (List ℕ)) (lines : List (List ℕ)) (ts us : List (Tree ℕ)) → AreDistinct labels → HasTrees labels lines ts → HasTrees labels lines us → ts ≡ us
text_once labels [] ts us d h k = h ∙ sym k
text_once labels (line ∷ lines) ts us d (inl (blank, h)) (inl (empty, k)) = text_once labels lines ts us d h k
text_once labels (line ∷ lines) ts us d (inl (blank, h)) (inr (u, vs, e, is, k)) = absurd (not_blank labels line u blank is)
text_once labels (line ∷ lines) ts us d (inr (t, vs, e, is, h)) (inl (blank, k)) = absurd (not_blank labels line t blank is)
text_once labels (line ∷ lines) ts us d (inr (t, vs, e, is, h)) (inr (u, ws, f, are, k)) =
    e ∙ ap (λ (x : Tree ℕ). x ∷ vs) (line_once labels line t u d is are) ∙ ap (λ (xs : List (Tree ℕ)). u ∷ xs) (text_once labels lines vs ws d h k) ∙ sym f

-- the laws
pub faults_exact : (bytes : List ℕ) (fault : FileFault) → (trees_of bytes ≡ Err fault → IsFirstFault bytes fault) × (IsFirstFault bytes fault → trees_of bytes ≡ Err fault)
unfolding trees_of
faults_exact bytes fault = (fault_found 1 (lines_of bytes) fault, fault_is 1 (lines_of bytes) fault)

pub texts_exact : (labels : List (List ℕ)) (bytes : List ℕ) (ts : List (Tree ℕ)) → (((iss : List (List Item)) × (trees_of bytes ≡ Ok iss) × AreTrees labels ts iss) → TreesText labels bytes ts × Each IsSmall ts) × ((TreesText labels bytes ts × Each IsSmall ts) → ((iss : List (List Item)) × (trees_of bytes ≡ Ok iss) × AreTrees labels ts iss))
unfolding trees_of
texts_exact labels bytes ts = (λ h. text_found labels 1 (lines_of bytes) ts h.0 h.1 h.2, λ h. text_read labels 1 (lines_of bytes) ts h.0 h.1)

pub one_meaning : (labels : List (List ℕ)) (bytes : List ℕ) (ts us : List (Tree ℕ)) → AreDistinct labels → TreesText labels bytes ts → TreesText labels bytes us → ts ≡ us
one_meaning labels bytes ts us = text_once labels (lines_of bytes) ts us

pub not_both : (labels : List (List ℕ)) (bytes : List ℕ) (ts : List (Tree ℕ)) (fault : FileFault) → TreesText labels bytes ts → Each IsSmall ts → IsFirstFault bytes fault → ⊥
not_both labels bytes ts fault h small f =
    let r = text_read labels 1 (lines_of bytes) ts h small in
    let bad : Ok r.0 ≡ Err fault = sym r.1 ∙ fault_is 1 (lines_of bytes) fault f in
    cc

-- the labels of what is said are in the table
said_below : (labels : List (List ℕ)) (w : Written) (ts : Trees ℕ) → Says labels w ts → LabelsBelow (length labels) ts
said_below labels end none h = tt
said_below labels end (tree f kids rest) h = absurd h
said_below labels (leaf q t more) none h = absurd h
said_below labels (leaf q t more) (tree f none rest) h = (slice_get_within labels f t h.0, tt, said_below labels more rest h.1)
said_below labels (leaf q t more) (tree f (tree g kids others) rest) h = absurd h
said_below labels (head q t inner more) none h = absurd h
said_below labels (head q t inner more) (tree f kids rest) h = (slice_get_within labels f t h.0, said_below labels inner kids h.1, said_below labels more rest h.2)

texts_below : (labels : List (List ℕ)) (lines : List (List ℕ)) (ts : List (Tree ℕ)) → HasTrees labels lines ts → Each (HasLabels labels) ts
texts_below labels [] ts h = subst (λ (us : List (Tree ℕ)). Each (HasLabels labels) us) (sym h) tt
texts_below labels (line ∷ lines) ts (inl (blank, h)) = texts_below labels lines ts h
texts_below labels (line ∷ lines) ts (inr (t, us, e, is, h)) =
    subst (λ (vs : List (Tree ℕ)). Each (HasLabels labels) vs) (sym e) (said_below labels is.spells.written (only t) is.spells.says, texts_below labels lines us h)

pub in_range : (labels : List (List ℕ)) (bytes : List ℕ) (r : Result (Vec (Tree ℕ)) ReadError) → IsFile labels r (trees_of bytes) → IfOk r (λ trees. Each (HasLabels labels) trees.items)
in_range labels bytes (Ok trees) h = texts_below labels (lines_of bytes) trees.items (reads labels bytes (Ok trees) h).0
in_range labels bytes (Err e) h = tt
