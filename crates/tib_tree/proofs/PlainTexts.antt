-- The text of a tree has no line feed where no label has one.
use Rattle.std.proofs.Common.{◌≡◌, ℕ, List, [], ◌∷◌, ◌++◌, get_or, Bool, true, false, refl, ◌∙◌, zero, suc}
use Rattle.std.specs.Prelude.{◌||◌, ◌==◌, cond}
use Rattle.std.specs.List.{list_all}
use Rattle.std.proofs.lemmas.List.Folds.{list_all-append}
use Rattle.tib_lex.specs.Grammar.{name, label, is_name, spelling, escape}
use Rattle.tib_lex.specs.Lines.{not_feed, HasNoFeed}
use Rattle.tib_lex.specs.Lists.{Each}
use Rattle.tib_tree.specs.Trees.{Tree, Trees, none, tree, only}
use Rattle.tib_tree.specs.Growth.{text_at}
use Rattle.tib_tree.specs.Printed.{label_text, in_parentheses, behind_space, trees_text, tree_text}
use Rattle.tib_lex.proofs.Booleans.{and-both, and-true}

joined : (xs ys : List ℕ) → HasNoFeed xs → HasNoFeed ys → HasNoFeed (xs ++ ys)
joined xs ys h k = list_all-append not_feed xs ys ∙ and-both (list_all not_feed xs) (list_all not_feed ys) h k

escaped_byte : (c : Bool) (x : ℕ) (rest : List ℕ) → not_feed x ≡ true → HasNoFeed rest → HasNoFeed (cond c (92 ∷ (x ∷ rest)) (x ∷ rest))
escaped_byte true x rest h k = and-both (not_feed x) (list_all not_feed rest) h k
escaped_byte false x rest h k = and-both (not_feed x) (list_all not_feed rest) h k

escaped : (xs : List ℕ) → HasNoFeed xs → HasNoFeed (escape xs)
escaped [] h = refl
escaped (x ∷ xs) h = let t = and-true (not_feed x) (list_all not_feed xs) h in escaped_byte (x == 34 || x == 92) x (escape xs) t.0 (escaped xs t.1)

spelled : (c : Bool) (text : List ℕ) → HasNoFeed text → HasNoFeed (spelling (cond c (name text) (label text)))
spelled true text h = h
spelled false text h = joined (escape text) (34 ∷ []) (escaped text h) refl

at : (labels : List (List ℕ)) (f : ℕ) → Each HasNoFeed labels → HasNoFeed (get_or labels f [])
at [] f e = refl
at (x ∷ xs) zero e = e.0
at (x ∷ xs) (suc f) e = at xs f e.1

enclosed : (kids : Trees ℕ) (text : List ℕ) → HasNoFeed text → HasNoFeed (in_parentheses kids text)
enclosed none text h = refl
enclosed (tree f kids rest) text h = joined text (41 ∷ []) h refl

spaced : (rest : Trees ℕ) (text : List ℕ) → HasNoFeed text → HasNoFeed (behind_space rest text)
spaced none text h = refl
spaced (tree f kids rest) text h = h

trees_plain : (labels : List (List ℕ)) (ts : Trees ℕ) → Each HasNoFeed labels → HasNoFeed (trees_text labels ts)
trees_plain labels none e = refl
trees_plain labels (tree f kids rest) e =
    joined (label_text (text_at labels f)) (in_parentheses kids (trees_text labels kids) ++ behind_space rest (trees_text labels rest)) (spelled (is_name (text_at labels f)) (text_at labels f) (at labels f e))
    (joined (in_parentheses kids (trees_text labels kids)) (behind_space rest (trees_text labels rest)) (enclosed kids (trees_text labels kids) (trees_plain labels kids e)) (spaced rest (trees_text labels rest) (trees_plain labels rest e)))

pub tree_plain : (labels : List (List ℕ)) (t : Tree ℕ) → Each HasNoFeed labels → HasNoFeed (tree_text labels t)
tree_plain labels t e = trees_plain labels (only t) e
