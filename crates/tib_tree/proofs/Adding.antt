-- Tables that grow by one text after another.
use Rattle.std.proofs.Common.{◌≡◌, ℕ, ◌+◌, ◌-◌, ◌<◌, ◌≤◌, inl, inr, List, [], ◌∷◌, ◌++◌, length, get_or, drop, map, refl, ap, sym, ◌∙◌, subst, arith, append-nil, append_assoc}
use Rattle.std.specs.Prelude.{Some, None, Result, Ok, Err, IfOk}
use Rattle.std.specs.Global.{Vec}
use Rattle.std.proofs.lemmas.List.{length-append, length-map, map-append}
use Rattle.std.proofs.lemmas.Option.{get_or_from_slice_get}
use Rattle.tib_lex.specs.Grammar.{Word, close}
use Rattle.tib_lex.specs.Line.{words_at, word_at}
use Rattle.tib_lex.specs.Lines.{HasNoFeed}
use Rattle.tib_lex.specs.Lists.{Each}
use Rattle.tib_lex.specs.declared.token.Token.{Token}
use Rattle.tib_lex.specs.declared.fault.ReadError.{ReadError}
use Rattle.tib_tree.specs.Grows.{Adds, AddsAll}
use Rattle.tib_tree.specs.Growth.{text_at, label_texts}
use Rattle.tib_tree.specs.Written.{Written, end, leaf, head, spell, items, Item}
use Rattle.tib_tree.specs.Machine.{IsTree, nodes_of}
use Rattle.tib_tree.specs.Nodes.{AreNodes}
use Rattle.tib_tree.specs.Lines.{tree_line, texts_in}
use Rattle.tib_tree.specs.File.{AreTrees, item_texts, IsFile, texts_in_file, trees_of}
use Rattle.tib_tree.specs.Trees.{Tree, preorder_of}
use Rattle.tib_tree.specs.Shape.{item_at, items_back}
use Rattle.tib_tree.specs.declared.shape.Place.{Place}
use Rattle.tib_tree.proofs.NodesRead.{back_more}
use Rattle.tib_tree.proofs.LineRead.{back_long}
use Rattle.tib_tree.proofs.Read.{tree_back}

-- what holds of each member of a list, and of one more
pub each_more : {A : Type 0} (P : A → Type 0) (xs : List A) (x : A) → Each P xs → P x → Each P (xs ++ x ∷ [])
each_more P [] x h p = (p, tt)
each_more P (y ∷ ys) x h p = (h.0, each_more P ys x h.1 p)

pub plain_added : (before now : List (List ℕ)) (text : List ℕ) → Each HasNoFeed before → HasNoFeed text → now ≡ before ++ text ∷ [] → Each HasNoFeed now
plain_added before now text h p e = subst (λ (l : List (List ℕ)). Each HasNoFeed l) (sym e) (each_more HasNoFeed before text h p)

pub adds_join : (a b c xs ys : List (List ℕ)) → AddsAll a xs b → AddsAll b ys c → AddsAll a (xs ++ ys) c
adds_join a b c [] ys e h = subst (λ (l : List (List ℕ)). AddsAll l ys c) e h
adds_join a b c (x ∷ xs) ys (m, first, more) h = (m, first, adds_join m b c xs ys more h)

adds_one : (a b : List (List ℕ)) (text : List ℕ) → Adds a text b → AddsAll a (text ∷ []) b
adds_one a b text h = (b, h, refl)

pub one_longer : (a b : List (List ℕ)) (text : List ℕ) → Adds a text b → length b ≤ length a + 1
one_longer a b text (inl (held, e)) = omega (arith, ap length e)
one_longer a b text (inr (new, e)) = omega (arith, ap length e, length-append a (text ∷ []))

-- one more place, from the last on
pub texts_step : (line : List ℕ) (places : List Place) (i : ℕ) (d : Place) (old a b : List (List ℕ)) → 0 < i → i ≤ length places → AddsAll old (map (λ i. i.text) (items_back line (drop i places))) a → Adds a (item_at line (get_or places (i - 1) d)).text b → AddsAll old (map (λ i. i.text) (items_back line (drop (i - 1) places))) b
texts_step line places i d old a b h k all new =
    let one : Item = item_at line (get_or places (i - 1) d) in
    let before : List Item = items_back line (drop i places) in
    let joined : AddsAll old (map (λ (i : Item). i.text) before ++ one.text ∷ []) b = adds_join old a b (map (λ (i : Item). i.text) before) (one.text ∷ []) all (adds_one a b one.text new) in
    subst (λ (is : List Item). AddsAll old (map (λ (i : Item). i.text) is) b) (sym (back_more line places i d h k))
    (subst (λ (ts : List (List ℕ)). AddsAll old ts b) (sym (map-append (λ (i : Item). i.text) before (one ∷ []))) joined)

-- a tree has at least as many tokens as nodes
few_items : (w : Written) → length (items w) ≤ length (spell w)
few_items end = omega arith
few_items (leaf quoted text rest) = omega (arith, few_items rest)
few_items (head quoted text kids rest) =
    omega (arith, few_items kids, few_items rest, length-append (items kids) (items rest), length-append (spell kids) (close ∷ spell rest))

few_nodes : (words : List Word) (is : List Item) → IsTree words is → length is ≤ length words
few_nodes words is t = omega (arith, few_items t.tree, ap length t.spelled, ap length t.nodes)

pub few_places : (line : List ℕ) (ts : List Token) (places : List Place) → nodes_of (words_at line ts) ≡ Some (items_back line places) → length places ≤ length ts
few_places line ts places e = omega (arith, few_nodes (words_at line ts) (items_back line places) (tree_back (words_at line ts) (items_back line places) e), back_long line places, length-map ts (word_at line))

-- a line adds the texts of its nodes
pub none_added : (line : List ℕ) (a : List (List ℕ)) → tree_line line ≡ Ok None → AddsAll a (texts_in (tree_line line)) a
none_added line a e = rw e refl

pub line_added : (line : List ℕ) (places again : List Place) (a b : List (List ℕ)) → tree_line line ≡ Ok (Some (items_back line places)) → again ≡ places → AddsAll a (map (λ i. i.text) (items_back line again)) b → AddsAll a (texts_in (tree_line line)) b
line_added line places again a b e same h = rw e (subst (λ (ps : List Place). AddsAll a (map (λ (i : Item). i.text) (items_back line ps)) b) same h)

pub texts_more : (done : List (List Item)) (is : List Item) → item_texts (done ++ is ∷ []) ≡ item_texts done ++ map (λ i. i.text) is
texts_more [] is = append-nil (map (λ (i : Item). i.text) is)
texts_more (js ∷ done) is =
    ap (λ (ts : List (List ℕ)). map (λ (i : Item). i.text) js ++ ts) (texts_more done is)
    ∙ sym (append_assoc (map (λ (i : Item). i.text) js) (item_texts done) (map (λ (i : Item). i.text) is))

-- the texts of labels are those of the nodes
texts_are : (labels : List (List ℕ)) (ns : List (ℕ × ℕ)) (is : List Item) → AreNodes labels ns is → map (λ n. text_at labels n.0) ns ≡ map (λ i. i.text) is
texts_are labels [] [] h = refl
texts_are labels [] (i ∷ is) h = absurd h
texts_are labels (n ∷ ns) [] h = absurd h
texts_are labels (n ∷ ns) (i ∷ is) h = cc (get_or_from_slice_get labels n.0 i.text [] h.0.0, texts_are labels ns is h.1)

pub trees_texts : (labels : List (List ℕ)) (ts : List (Tree ℕ)) (iss : List (List Item)) → AreTrees labels ts iss → label_texts labels ts ≡ item_texts iss
trees_texts labels [] [] h = refl
trees_texts labels [] (is ∷ iss) h = absurd h
trees_texts labels (t ∷ ts) [] h = absurd h
trees_texts labels (t ∷ ts) (is ∷ iss) h = cc (texts_are labels (preorder_of t) is h.0, trees_texts labels ts iss h.1)

pub file_added : (old labels : List (List ℕ)) (bytes : List ℕ) (r : Result (Vec (Tree ℕ)) ReadError) → IsFile labels r (trees_of bytes) → IfOk r (λ _. AddsAll old (texts_in_file (trees_of bytes)) labels) → IfOk r (λ trees. AddsAll old (label_texts labels trees.items) labels)
file_added old labels bytes (Err error) h all = tt
file_added old labels bytes (Ok trees) (iss, e, are) all =
    let file : AddsAll old (item_texts iss) labels = subst (λ w. AddsAll old (texts_in_file w) labels) e all in
    subst (λ (ts : List (List ℕ)). AddsAll old ts labels) (sym (trees_texts labels trees.items iss are)) file
