-- Sides and rules under new numbers.
use Rattle.std.specs.Prelude.{◌≡◌, ℕ, ◌<◌, List, [], ◌∷◌, ◌++◌, length, take, drop, map, refl}
use Rattle.std.specs.List.{refill}
use Rattle.std.proofs.Common.{arith, ap, sym, ◌∙◌, inl, inr, get_or}
use Rattle.std.proofs.lemmas.List.{map-append, length-map, length-take, drop_more, get_or_at, append-nil}
use Rattle.std.proofs.Math.Seq.{take-length, drop-length}
use Rattle.tib_lex.specs.Lists.{Has}
use Rattle.tib_tree.specs.Trees.{Trees, none, tree, count, only, preorder, preorder_of, relabel, first_of, parse, parse_of}
use Rattle.tib_tree.proofs.Counts.{count-relabel}
use Rattle.tib_grammar.specs.Sides.{Symbol, label, hole, Side, holes, holes_of, side_map, symbol_map, HolesAreLeaves}
use Rattle.tib_grammar.specs.Items.{pairs_of, holes_in}
use Rattle.tib_grammar.specs.Range.{AllBelow}
use Rattle.tib_grammar.specs.GrammarOf.{named_rule}
use Rattle.tib_grammar.specs.declared.Rule.{Rule}
use Rattle.tib_grammar.specs.declared.Item.{Item}
use Rattle.tib_grammar.specs.declared.Item.TheVariants.{Label, Hole}
use Rattle.tib_grammar.specs.Renaming.{item_map}
use Rattle.tib_grammar.proofs.Holes.{IsBelow}

pub preorder-relabel : {A B : Type 0} (g : A → B) (ts : Trees A) → preorder (relabel g ts) ≡ map (λ p. (g p.0, p.1)) (preorder ts)
preorder-relabel g none = refl
preorder-relabel g (tree f kids rest) =
    ap (λ n. (g f, n) ∷ (preorder (relabel g kids) ++ preorder (relabel g rest))) (count-relabel g kids)
    ∙ ap (λ xs. (g f, count kids) ∷ (xs ++ preorder (relabel g rest))) (preorder-relabel g kids)
    ∙ ap (λ xs. (g f, count kids) ∷ (map (λ p. (g p.0, p.1)) (preorder kids) ++ xs)) (preorder-relabel g rest)
    ∙ ap (λ xs. (g f, count kids) ∷ xs) (sym (map-append (λ p. (g p.0, p.1)) (preorder kids) (preorder rest)))

pairs-item_map : (f : ℕ → ℕ) (items : List (Item ℕ)) → pairs_of (map (item_map f) items) ≡ map (λ p. (symbol_map f p.0, p.1)) (pairs_of items)
pairs-item_map f [] = refl
pairs-item_map f (Label g rank ∷ items) = ap (λ xs. (label g, rank) ∷ xs) (pairs-item_map f items)
pairs-item_map f (Hole q ∷ items) = ap (λ xs. (hole (f q), 0) ∷ xs) (pairs-item_map f items)

-- renamed items are the preorder of the renamed side
pub preorder-renamed : (f : ℕ → ℕ) (s : Side ℕ ℕ) (items : List (Item ℕ)) → pairs_of items ≡ preorder_of s → preorder_of (side_map f s) ≡ pairs_of (map (item_map f) items)
preorder-renamed f s items e =
    ap (λ n. (symbol_map f s.label, n) ∷ preorder (relabel (symbol_map f) s.kids)) (count-relabel (symbol_map f) s.kids)
    ∙ ap (λ xs. (symbol_map f s.label, count s.kids) ∷ xs) (preorder-relabel (symbol_map f) s.kids)
    ∙ ap (map (λ p. (symbol_map f p.0, p.1))) (sym e)
    ∙ sym (pairs-item_map f items)

relabel_back :
    (f g : ℕ → ℕ) (ts : Trees (Symbol ℕ ℕ)) → ((q : ℕ) → Has (holes ts) q → g (f q) ≡ q) → HolesAreLeaves ts → relabel (symbol_map g) (relabel (symbol_map f) ts) ≡ ts
relabel_back f g none h l = refl
relabel_back f g (tree (label x) kids rest) h l =
    ap (λ ks. tree (label x) ks (relabel (symbol_map g) (relabel (symbol_map f) rest))) (relabel_back f g kids (λ q k. h q (left_part (holes kids) (holes rest) q k)) l.0)
    ∙ ap (tree (label x) kids) (relabel_back f g rest (λ q k. h q (right_part (holes kids) (holes rest) q k)) l.1)
  where
    left_part : (xs ys : List ℕ) (q : ℕ) → Has xs q → Has (xs ++ ys) q
    left_part [] ys q k = absurd k
    left_part (x ∷ xs) ys q k = elim k [ inl e ↦ inl e | inr m ↦ inr (left_part xs ys q m) ]

    right_part : (xs ys : List ℕ) (q : ℕ) → Has ys q → Has (xs ++ ys) q
    right_part [] ys q k = k
    right_part (x ∷ xs) ys q k = inr (right_part xs ys q k)
relabel_back f g (tree (hole p) none rest) h l =
    ap (λ z. tree (hole z) none (relabel (symbol_map g) (relabel (symbol_map f) rest))) (h p (inl refl)) ∙ ap (tree (hole p) none) (relabel_back f g rest (λ q k. h q (inr k)) l)
relabel_back f g (tree (hole p) (tree s kids more) rest) h l = absurd l

pub side_back : (f g : ℕ → ℕ) (s : Side ℕ ℕ) → ((q : ℕ) → Has (holes_of s) q → g (f q) ≡ q) → HolesAreLeaves (only s) → side_map g (side_map f s) ≡ s
side_back f g s h l = ap (first_of (label 0)) (relabel_back f g (only s) h l)

pub rule_back : (f g : ℕ → ℕ) (r : Rule ℕ) → g (f r.left) ≡ r.left → ((q : ℕ) → Has (holes_of r.right) q → g (f q) ≡ q) → HolesAreLeaves (only r.right) → named_rule g (named_rule f r) ≡ r
rule_back f g r a h l =
    ap (λ z. record { left = z; right = side_map g (side_map f r.right); cost = r.cost }) a ∙ ap (λ s. record { left = r.left; right = s; cost = r.cost }) (side_back f g r.right h l)

-- the place after those that were replaced has what it had
pub at-seam : {X : Type 0} (f : X → X) (xs ys : List X) (i : ℕ) (d : X) → i < length xs → ys ≡ map f (take i xs) ++ drop i xs → get_or ys i d ≡ get_or xs i d
at-seam f xs ys i d lt h =
    let front = map f (take i xs) in
    let long : length front ≡ i = length-map (take i xs) f ∙ omega (arith, length-take i xs) in
    ap (λ l. get_or l i d) (h ∙ ap (λ l. front ++ l) (drop_more xs i d lt)) ∙ get_or_at front _ _ d i long

pub item_below : (n : ℕ) (x : Item ℕ) → IsBelow n x → AllBelow n (holes_in (x ∷ []))
item_below n (Label f rank) b = tt
item_below n (Hole q) b = (b, tt)

-- a list that is filled with as many is what fills it
refilled : {X : Type 0} (xs ws : List X) → length ws ≡ length xs → refill (length xs) xs ws ≡ ws
refilled xs ws e =
    ap (λ n. take (length xs) (ws ++ drop n xs)) e
    ∙ ap (λ l. take (length xs) (ws ++ l)) (drop-length xs)
    ∙ ap (take (length xs)) (append-nil ws)
    ∙ ap (λ n. take n ws) (sym e)
    ∙ take-length ws

-- the items of a side are the side
pub side_from : (items : List (Item ℕ)) (s : Side ℕ ℕ) → pairs_of items ≡ preorder_of s → first_of (label 0) (parse (pairs_of items)) ≡ s
side_from items s e = ap (λ xs. first_of (label 0) (parse xs)) e ∙ ap (first_of (label 0)) (parse_of s)

-- items that are renamed in place are the preorder of the renamed side
pub still_preorder :
    (f : ℕ → ℕ) (s : Side ℕ ℕ) (lent inside new : List (Item ℕ)) → pairs_of lent ≡ preorder_of s → lent ≡ inside → new ≡ map (item_map f) lent →
    pairs_of (refill (length inside) inside new) ≡ preorder_of (side_map f s)
still_preorder f s lent inside new is from e =
    ap pairs_of (refilled inside new (ap length e ∙ length-map lent (item_map f) ∙ ap length from) ∙ e) ∙ sym (preorder-renamed f s lent is)
