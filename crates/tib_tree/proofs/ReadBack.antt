-- What is printed of trees reads back.
use Rattle.std.proofs.Common.{◌≡◌, ℕ, ◌<◌, inl, inr, Bool, true, false, List, [], ◌∷◌, ◌++◌, length, refl, ap, sym, ◌∙◌, subst, append_assoc, append-nil}
use Rattle.std.specs.Prelude.{Some, slice_get, not, cond}
use Rattle.std.proofs.lemmas.Option.{slice_get-get_or}
use Rattle.tib_lex.specs.Grammar.{Word, open_, close, name, label, is_name, IsWord, begins_name, MayPrecede, HasWords}
use Rattle.tib_lex.specs.Lines.{HasNoFeed, HasLines}
use Rattle.tib_lex.specs.Lists.{Each}
use Rattle.tib_tree.proofs.PlainTexts.{tree_plain}
use Rattle.tib_lex.proofs.Names.{name_is}
use Rattle.tib_lex.proofs.HasLines.{lines_read}
use Rattle.tib_tree.specs.Trees.{Tree, Trees, none, tree, only}
use Rattle.tib_tree.specs.Written.{Written, end, leaf, head, word_for, spell}
use Rattle.tib_tree.specs.Meaning.{Says, IsTreeLine}
use Rattle.tib_tree.specs.Growth.{text_at, LabelsBelow}
use Rattle.tib_tree.specs.Printed.{label_word, label_text, in_parentheses, behind_space, trees_text, tree_text}
use Rattle.tib_tree.specs.TreesText.{HasTrees, TreesText}
use Rattle.tib_lex.proofs.Booleans.{bool_cases}
use Rattle.tib_lex.proofs.HasWords.{after_space, has_first_word, no_words}

-- trees as they are printed
abbrev node : Bool → List ℕ → Trees ℕ → Written → Written → Written
node quoted text none inner more = leaf quoted text more
node quoted text (tree f kids rest) inner more = head quoted text inner more

abbrev written : List (List ℕ) → Trees ℕ → Written
written labels none = end
written labels (tree f kids rest) = node (not (is_name (text_at labels f))) (text_at labels f) kids (written labels kids) (written labels rest)

same_word : (text : List ℕ) → word_for (not (is_name text)) text ≡ label_word text
same_word text = elim (bool_cases (is_name text)) [ inl h ↦ rw h refl | inr h ↦ rw h refl ]

label_is : (text : List ℕ) → IsWord (label_word text)
label_is text = elim (bool_cases (is_name text)) [ inl h ↦ rw h (name_is text h) | inr h ↦ rw h tt ]

precedes : (b : Bool) (text bytes : List ℕ) → begins_name bytes ≡ false → MayPrecede (cond b (name text) (label text)) bytes
precedes true text bytes h = h
precedes false text bytes h = tt

-- trees with these words after them
abbrev Reads : List (List ℕ) → Trees ℕ → Type 0
Reads labels ts = (more : List Word) (rest : List ℕ) → begins_name rest ≡ false → HasWords more rest → HasWords (spell (written labels ts) ++ more) (trees_text labels ts ++ rest)

beside : (labels : List (List ℕ)) (others : Trees ℕ) (more : List Word) (rest : List ℕ) → Reads labels others → begins_name rest ≡ false → HasWords more rest → HasWords (spell (written labels others) ++ more) (behind_space others (trees_text labels others) ++ rest)
beside labels none more rest p b h = h
beside labels (tree f kids others) more rest p b h = after_space (spell (written labels (tree f kids others)) ++ more) (trees_text labels (tree f kids others) ++ rest) (p more rest b h)

no_name_beside : (labels : List (List ℕ)) (others : Trees ℕ) (rest : List ℕ) → begins_name rest ≡ false → begins_name (behind_space others (trees_text labels others) ++ rest) ≡ false
no_name_beside labels none rest b = b
no_name_beside labels (tree f kids others) rest b = refl

labelled : (text : List ℕ) (words : List Word) (bytes : List ℕ) → begins_name bytes ≡ false → HasWords words bytes → HasWords (word_for (not (is_name text)) text ∷ words) (label_text text ++ bytes)
labelled text words bytes b h =
    subst (λ (w : Word). HasWords (w ∷ words) (label_text text ++ bytes)) (sym (same_word text)) (has_first_word (label_word text) words bytes (label_is text) (precedes (is_name text) text bytes b) h)

one_read : (labels : List (List ℕ)) (f : ℕ) (kids others : Trees ℕ) → Reads labels kids → Reads labels others → Reads labels (tree f kids others)
one_read labels f none others p q = λ more rest b h.
    let text : List ℕ = text_at labels f in
    let behind : List ℕ = behind_space others (trees_text labels others) in
    subst (λ (l : List ℕ). HasWords (word_for (not (is_name text)) text ∷ (spell (written labels others) ++ more)) l) (sym (append_assoc (label_text text) behind rest))
    (labelled text (spell (written labels others) ++ more) (behind ++ rest) (no_name_beside labels others rest b) (beside labels others more rest q b h))
one_read labels f (tree g inner next) others p q = λ more rest b h.
    let text : List ℕ = text_at labels f in
    let kids : Trees ℕ = tree g inner next in
    let behind : List ℕ = behind_space others (trees_text labels others) in
    let closed : HasWords (close ∷ (spell (written labels others) ++ more)) (41 ∷ (behind ++ rest)) = has_first_word close (spell (written labels others) ++ more) (behind ++ rest) tt tt (beside labels others more rest q b h) in
    let inside : HasWords (spell (written labels kids) ++ (close ∷ (spell (written labels others) ++ more))) (trees_text labels kids ++ (41 ∷ (behind ++ rest))) = p (close ∷ (spell (written labels others) ++ more)) (41 ∷ (behind ++ rest)) refl closed in
    let opened : HasWords (open_ ∷ (spell (written labels kids) ++ (close ∷ (spell (written labels others) ++ more)))) (40 ∷ (trees_text labels kids ++ (41 ∷ (behind ++ rest)))) = has_first_word open_ _ _ tt tt inside in
    let whole = labelled text (open_ ∷ (spell (written labels kids) ++ (close ∷ (spell (written labels others) ++ more)))) (40 ∷ (trees_text labels kids ++ (41 ∷ (behind ++ rest)))) refl opened in
    let words : (spell (written labels kids) ++ (close ∷ spell (written labels others))) ++ more ≡ spell (written labels kids) ++ (close ∷ (spell (written labels others) ++ more)) = append_assoc (spell (written labels kids)) (close ∷ spell (written labels others)) more in
    let bytes : label_text text ++ (40 ∷ (trees_text labels kids ++ (41 ∷ (behind ++ rest)))) ≡ (label_text text ++ (in_parentheses kids (trees_text labels kids) ++ behind)) ++ rest =
    ap (λ (l : List ℕ). label_text text ++ (40 ∷ l)) (sym (append_assoc (trees_text labels kids) (41 ∷ []) (behind ++ rest)))
    ∙ ap (λ (l : List ℕ). label_text text ++ (40 ∷ l)) (sym (append_assoc (trees_text labels kids ++ 41 ∷ []) behind rest))
    ∙ sym (append_assoc (label_text text) (40 ∷ ((trees_text labels kids ++ 41 ∷ []) ++ behind)) rest) in
    subst (λ (l : List ℕ). HasWords (word_for (not (is_name text)) text ∷ (open_ ∷ ((spell (written labels kids) ++ (close ∷ spell (written labels others))) ++ more))) l) bytes
    (subst (λ (ws : List Word). HasWords (word_for (not (is_name text)) text ∷ (open_ ∷ ws)) (label_text text ++ (40 ∷ (trees_text labels kids ++ (41 ∷ (behind ++ rest)))))) (sym words) whole)

reads : (labels : List (List ℕ)) (ts : Trees ℕ) → Reads labels ts
reads labels none = λ more rest b h. h
reads labels (tree f kids others) = one_read labels f kids others (reads labels kids) (reads labels others)

-- the labels that the table has
label_said : (labels : List (List ℕ)) (f : ℕ) → f < length labels → slice_get labels f ≡ Some (text_at labels f)
label_said labels f h = slice_get-get_or labels f [] h

says : (labels : List (List ℕ)) (ts : Trees ℕ) → LabelsBelow (length labels) ts → Says labels (written labels ts) ts
says labels none h = tt
says labels (tree f none others) h = (label_said labels f h.0, says labels others h.2)
says labels (tree f (tree g inner next) others) h = (label_said labels f h.0, says labels (tree g inner next) h.1, says labels others h.2)

pub line_back : (labels : List (List ℕ)) (t : Tree ℕ) → LabelsBelow (length labels) (only t) → IsTreeLine labels (tree_text labels t) t
line_back labels t h = record {
  words = spell (written labels (only t));
  has = subst (λ (l : List ℕ). HasWords (spell (written labels (only t))) l) (append-nil (tree_text labels t))
      (subst (λ (ws : List Word). HasWords ws (tree_text labels t ++ [])) (append-nil (spell (written labels (only t)))) (reads labels (only t) [] [] refl no_words));
  spells = record { written = written labels (only t); spelled = refl; says = says labels (only t) h };
}

pub text_back : (labels : List (List ℕ)) (t : Tree ℕ) → LabelsBelow (length labels) (only t) → Each HasNoFeed labels → TreesText labels (tree_text labels t ++ 10 ∷ []) (t ∷ [])
text_back labels t h plain =
    let lines : HasLines (tree_text labels t ∷ []) (tree_text labels t ++ 10 ∷ []) = (tree_plain labels t plain, inr ([], refl, refl)) in
    subst (λ (ls : List (List ℕ)). HasTrees labels ls (t ∷ [])) (sym (lines_read (tree_text labels t ∷ []) (tree_text labels t ++ 10 ∷ []) lines)) (inr (t, [], refl, line_back labels t h, refl))
