-- Bytes that are the text of trees over two tables are that of the same trees by the texts of
-- labels.
use Rattle.std.proofs.Common.{◌≡◌, ℕ, List, [], ◌∷◌, ◌++◌, refl, ap, sym, ◌∙◌, subst, inl, inr}
use Rattle.std.proofs.lemmas.Option.{get_or_from_slice_get}
use Rattle.tib_lex.specs.Grammar.{Word, HasWords}
use Rattle.tib_lex.specs.Lines.{lines_of}
use Rattle.tib_lex.specs.Lists.{Along}
use Rattle.tib_tree.specs.Trees.{Tree, Trees, none, tree, only, preorder_of}
use Rattle.tib_tree.specs.Growth.{text_at}
use Rattle.tib_tree.specs.Written.{Written, spell, count, Item, items}
use Rattle.tib_tree.specs.Machine.{nodes_of}
use Rattle.tib_tree.specs.Meaning.{Says, IsTreeLine}
use Rattle.tib_tree.specs.Nodes.{AreNodes}
use Rattle.tib_tree.specs.Printed.{label_text, in_parentheses, behind_space, trees_text, tree_text}
use Rattle.tib_tree.specs.TreesText.{HasTrees, TreesText}
use Rattle.tib_tree.proofs.Read.{tree_forth}
use Rattle.tib_tree.proofs.TreesText.{said_nodes, no_nodes}
use Rattle.tib_tree.proofs.Values.{count_said}
use Rattle.tib_grammar_file.specs.ByText.{HaveOneShape, HaveOneText, AreOneTree}
use Rattle.tib_grammar_file.proofs.Meanings.{preorder_whole}
use Rattle.tib_grammar_file.proofs.Shapes.{AgreeAtNode, shape_of}
use Rattle.tib_lex.proofs.Lists.{some_same}
use Rattle.tib_lex.proofs.HasWords.{words_once}

items_same : (words : List Word) (w v : Written) → count w ≡ 1 → count v ≡ 1 → spell w ≡ words → spell v ≡ words → items w ≡ items v
items_same words w v one two e f = some_same (items w) (items v) (sym (tree_forth w one) ∙ ap nodes_of (e ∙ sym f) ∙ tree_forth v two)

one_said : (labels : List (List ℕ)) (w : Written) (t : Tree ℕ) → Says labels w (only t) → count w ≡ 1
one_said labels w t h = sym (count_said labels w (only t) h)

not_blank : (labels : List (List ℕ)) (line : List ℕ) (t : Tree ℕ) → HasWords [] line → IsTreeLine labels line t → ⊥
not_blank labels line t blank h =
    no_nodes (items h.spells.written)
    (ap nodes_of (words_once line [] h.words blank h.has ∙ sym h.spells.spelled) ∙ tree_forth h.spells.written (one_said labels h.spells.written t h.spells.says))

side_nodes : (labels : List (List ℕ)) (w : Written) (t : Tree ℕ) → Says labels w (only t) → AreNodes labels (preorder_of t) (items w)
side_nodes labels w t h = subst (λ (ns : List (ℕ × ℕ)). AreNodes labels ns (items w)) (preorder_whole t) (said_nodes labels w (only t) h)

module _ (labels others : List (List ℕ)) where
  nodes_agree : (ns ms : List (ℕ × ℕ)) (is : List Item) → AreNodes labels ns is → AreNodes others ms is → Along (AgreeAtNode (HaveOneText labels others)) ns ms
  nodes_agree [] [] [] h k = tt
  nodes_agree (n ∷ ns) ms [] h k = absurd h
  nodes_agree [] (m ∷ ms) [] h k = absurd k
  nodes_agree [] ms (i ∷ is) h k = absurd h
  nodes_agree (n ∷ ns) [] (i ∷ is) h k = absurd k
  nodes_agree (n ∷ ns) (m ∷ ms) (i ∷ is) h k = ((record { text = i.text; first = h.0.0; second = k.0.0 }, h.0.1 ∙ sym k.0.1), nodes_agree ns ms is h.1 k.1)

  line_agrees : (line : List ℕ) (t u : Tree ℕ) → IsTreeLine labels line t → IsTreeLine others line u → AreOneTree labels others t u
  line_agrees line t u h k =
      let w : Written = h.spells.written in
      let v : Written = k.spells.written in
      let same : items w ≡ items v =
      items_same h.words w v (one_said labels w t h.spells.says) (one_said others v u k.spells.says) h.spells.spelled (k.spells.spelled ∙ words_once line k.words h.words k.has h.has) in
      let mine : AreNodes labels (preorder_of t) (items v) = subst (λ (is : List Item). AreNodes labels (preorder_of t) is) same (side_nodes labels w t h.spells.says) in
      shape_of (HaveOneText labels others) t u (nodes_agree (preorder_of t) (preorder_of u) (items v) mine (side_nodes others v u k.spells.says))

  lines_agree : (lines : List (List ℕ)) (ts us : List (Tree ℕ)) → HasTrees labels lines ts → HasTrees others lines us → Along (AreOneTree labels others) ts us
  lines_agree [] ts us h k =
      subst (λ (xs : List (Tree ℕ)). Along (AreOneTree labels others) xs us) (sym h) (subst (λ (xs : List (Tree ℕ)). Along (AreOneTree labels others) [] xs) (sym k) tt)
  lines_agree (line ∷ lines) ts us (inl (blank, h)) (inl (empty, k)) = lines_agree lines ts us h k
  lines_agree (line ∷ lines) ts us (inl (blank, h)) (inr (u, vs, e, is, k)) = absurd (not_blank others line u blank is)
  lines_agree (line ∷ lines) ts us (inr (t, vs, e, is, h)) (inl (blank, k)) = absurd (not_blank labels line t blank is)
  lines_agree (line ∷ lines) ts us (inr (t, vs, e, is, h)) (inr (u, ws, f, are, k)) =
      subst (λ (xs : List (Tree ℕ)). Along (AreOneTree labels others) xs us) (sym e)
      (subst (λ (xs : List (Tree ℕ)). Along (AreOneTree labels others) (t ∷ vs) xs) (sym f) (line_agrees line t u is are, lines_agree lines vs ws h k))

  text_same : (i j : ℕ) → HaveOneText labels others i j → text_at labels i ≡ text_at others j
  text_same i j h = get_or_from_slice_get labels i h.text [] h.first ∙ sym (get_or_from_slice_get others j h.text [] h.second)

  parentheses_same : (ts us : Trees ℕ) (text : List ℕ) → HaveOneShape (HaveOneText labels others) ts us → in_parentheses ts text ≡ in_parentheses us text
  parentheses_same none none text h = refl
  parentheses_same none (tree j below more) text h = absurd h
  parentheses_same (tree i kids rest) none text h = absurd h
  parentheses_same (tree i kids rest) (tree j below more) text h = refl

  space_same : (ts us : Trees ℕ) (text : List ℕ) → HaveOneShape (HaveOneText labels others) ts us → behind_space ts text ≡ behind_space us text
  space_same none none text h = refl
  space_same none (tree j below more) text h = absurd h
  space_same (tree i kids rest) none text h = absurd h
  space_same (tree i kids rest) (tree j below more) text h = refl

  trees_printed : (ts us : Trees ℕ) → HaveOneShape (HaveOneText labels others) ts us → trees_text labels ts ≡ trees_text others us
  trees_printed none none h = refl
  trees_printed none (tree j below more) h = absurd h
  trees_printed (tree i kids rest) none h = absurd h
  trees_printed (tree i kids rest) (tree j below more) h =
      let inner : in_parentheses kids (trees_text labels kids) ≡ in_parentheses below (trees_text others below) =
      ap (in_parentheses kids) (trees_printed kids below h.1) ∙ parentheses_same kids below (trees_text others below) h.1 in
      let behind : behind_space rest (trees_text labels rest) ≡ behind_space more (trees_text others more) =
      ap (behind_space rest) (trees_printed rest more h.2) ∙ space_same rest more (trees_text others more) h.2 in
      ap (λ (x : List ℕ). label_text x ++ (in_parentheses kids (trees_text labels kids) ++ behind_space rest (trees_text labels rest))) (text_same i j h.0)
      ∙ ap (λ (x : List ℕ). label_text (text_at others j) ++ (x ++ behind_space rest (trees_text labels rest))) inner
      ∙ ap (λ (x : List ℕ). label_text (text_at others j) ++ (in_parentheses below (trees_text others below) ++ x)) behind

  pub tree_printed : (t u : Tree ℕ) → AreOneTree labels others t u → tree_text labels t ≡ tree_text others u
  tree_printed t u h = trees_printed (only t) (only u) h

  pub trees_by_text : (bytes : List ℕ) (ts us : List (Tree ℕ)) → TreesText labels bytes ts → TreesText others bytes us → Along (AreOneTree labels others) ts us
  trees_by_text bytes ts us = lines_agree (lines_of bytes) ts us
