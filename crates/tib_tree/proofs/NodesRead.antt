-- Nodes that are read one after another.
use Rattle.std.proofs.Common.{◌≡◌, ℕ, ◌-◌, ◌<◌, ◌≤◌, List, [], ◌∷◌, ◌++◌, length, get_or, drop, drop-cons, sub-one, refl, ap, sym, ◌∙◌, subst, arith, Option, zero, suc}
use Rattle.std.specs.Prelude.{map}
use Rattle.std.proofs.lemmas.List.{reverse-append, map-append}
use Rattle.tib_lex.specs.Grammar.{Word, open_, close, hash, arrow, name, label}
use Rattle.tib_lex.specs.Line.{text_of}
use Rattle.tib_tree.specs.Grows.{Grows}
use Rattle.tib_tree.specs.Written.{Item}
use Rattle.tib_tree.specs.Nodes.{IsNode, AreNodes}
use Rattle.tib_tree.specs.Shape.{item_of, item_at, items_back}
use Rattle.tib_tree.specs.Pairs.{pair_of, pairs_of}
use Rattle.tib_tree.specs.Shaped.{blank, blank_of, blanks_back}
use Rattle.tib_tree.specs.declared.preorder.Node.{Node}
use Rattle.tib_tree.specs.declared.shape.Place.{Place}

pub item_text : (word : Word) (kids : Option ℕ) → (item_of word kids).text ≡ text_of word
item_text (name text) kids = refl
item_text (label text) kids = refl
item_text open_ kids = refl
item_text close kids = refl
item_text hash kids = refl
item_text arrow kids = refl

pub item_kids : (word : Word) (kids : Option ℕ) → (item_of word kids).kids ≡ kids
item_kids (name text) kids = refl
item_kids (label text) kids = refl
item_kids open_ kids = refl
item_kids close kids = refl
item_kids hash kids = refl
item_kids arrow kids = refl

-- nodes stay as the table grows
pub nodes_grow : (a b : List (List ℕ)) (ns : List (ℕ × ℕ)) (is : List Item) → Grows a b → AreNodes a ns is → AreNodes b ns is
nodes_grow a b [] [] g h = tt
nodes_grow a b [] (i ∷ is) g h = absurd h
nodes_grow a b (n ∷ ns) [] g h = absurd h
nodes_grow a b (n ∷ ns) (i ∷ is) g h = ((g.kept n.0 i.text h.0.0, h.0.1), nodes_grow a b ns is g h.1)

pub nodes_more : (a : List (List ℕ)) (ns : List (ℕ × ℕ)) (is : List Item) (n : ℕ × ℕ) (i : Item) → AreNodes a ns is → IsNode a n i → AreNodes a (ns ++ n ∷ []) (is ++ i ∷ [])
nodes_more a [] [] n i h k = (k, tt)
nodes_more a [] (j ∷ is) n i h k = absurd h
nodes_more a (m ∷ ns) [] n i h k = absurd h
nodes_more a (m ∷ ns) (j ∷ is) n i h k = (h.0, nodes_more a ns is n i h.1 k)

-- one more place, from the last on
pub back_more : (line : List ℕ) (places : List Place) (i : ℕ) (d : Place) → 0 < i → i ≤ length places → items_back line (drop (i - 1) places) ≡ items_back line (drop i places) ++ item_at line (get_or places (i - 1) d) ∷ []
back_more line places zero d h k = absurd (omega arith)
back_more line places (suc i) d h k = rw (sub-one, drop-cons places i d) (reverse-append (item_at line (get_or places i d) ∷ []) (map (item_at line) (drop (suc i) places)))

pub nodes_step : (line : List ℕ) (places : List Place) (i : ℕ) (d : Place) (a b : List (List ℕ)) (ns more : List (ℕ × ℕ)) (n : ℕ × ℕ) → 0 < i → i ≤ length places → AreNodes a ns (items_back line (drop i places)) → Grows a b → IsNode b n (item_at line (get_or places (i - 1) d)) → more ≡ ns ++ n ∷ [] → AreNodes b more (items_back line (drop (i - 1) places))
nodes_step line places i d a b ns more n h k all g new e =
    subst (λ (is : List Item). AreNodes b more is) (sym (back_more line places i d h k))
    (subst (λ (ms : List (ℕ × ℕ)). AreNodes b ms (items_back line (drop i places) ++ item_at line (get_or places (i - 1) d) ∷ [])) (sym e)
    (nodes_more b ns (items_back line (drop i places)) n (item_at line (get_or places (i - 1) d)) (nodes_grow a b ns (items_back line (drop i places)) g all) new))

-- the same for nodes with their sizes and depths
pub pairs_more : (ns more : List Node) (n : Node) → more ≡ ns ++ n ∷ [] → pairs_of more ≡ pairs_of ns ++ pair_of n ∷ []
pairs_more ns more n e = ap pairs_of e ∙ map-append pair_of ns (n ∷ [])

pub blanks_step : (places : List Place) (i : ℕ) (d : Place) (ns more : List Node) (n : Node) → 0 < i → i ≤ length places → map blank ns ≡ blanks_back (drop i places) → blank n ≡ blank_of (get_or places (i - 1) d) → more ≡ ns ++ n ∷ [] → map blank more ≡ blanks_back (drop (i - 1) places)
blanks_step places zero d ns more n h k all new e = absurd (omega arith)
blanks_step places (suc i) d ns more n h k all new e =
    let here : blank n ≡ blank_of (get_or places i d) = rw sub-one at new in
    ap (map blank) e
    ∙ map-append blank ns (n ∷ [])
    ∙ ap (λ (l : List Node). l ++ blank n ∷ []) all
    ∙ ap (λ (m : Node). blanks_back (drop (suc i) places) ++ m ∷ []) here
    ∙ rw (sub-one, drop-cons places i d) (sym (reverse-append (blank_of (get_or places i d) ∷ []) (map blank_of (drop (suc i) places))))
