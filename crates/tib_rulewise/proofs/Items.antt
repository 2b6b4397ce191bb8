-- Items of a side one by one, and with what they carry replaced.
use Rattle.std.specs.Prelude.{◌≡◌, ℕ, ◌+◌, ◌<◌, List, [], ◌∷◌, ◌++◌, length, map, take, refl}
use Rattle.std.proofs.Common.{zero, suc, arith, ap, sym, ◌∙◌, subst, get_or}
use Rattle.tib_lex.specs.Lists.{Each}
use Rattle.tib_tree.specs.Trees.{Trees, none, tree, count, only, preorder, preorder_of, relabel}
use Rattle.tib_tree.proofs.Counts.{count-relabel, tree_same}
use Rattle.tib_grammar.specs.Sides.{Symbol, label, hole, Side, holes, holes_of, HolesAreLeaves, symbol_map, side_map}
use Rattle.tib_grammar.specs.Items.{pairs_of, holes_in}
use Rattle.tib_grammar.specs.declared.Item.{Item}
use Rattle.tib_grammar.specs.declared.Item.TheVariants.{Label, Hole}
use Rattle.tib_grammar.proofs.Renamed.{preorder-relabel}
use Rattle.tib_grammar.proofs.Holes.{holes_of_items}
use Rattle.tib_rulewise.specs.Placed.{item_with}

module _ {P Q : Type 0} where
  pairs-with : (f : P → Q) (items : List (Item P)) → pairs_of (map (item_with f) items) ≡ map (λ p. (symbol_map f p.0, p.1)) (pairs_of items)
  pairs-with f [] = refl
  pairs-with f (Label g rank ∷ items) = ap (λ xs. (label g, rank) ∷ xs) (pairs-with f items)
  pairs-with f (Hole p ∷ items) = ap (λ xs. (hole (f p), 0) ∷ xs) (pairs-with f items)

  -- items with other values are those of the side with these values
  pub items-with : (f : P → Q) (s : Side ℕ P) (items : List (Item P)) → pairs_of items ≡ preorder_of s → pairs_of (map (item_with f) items) ≡ preorder_of (side_map f s)
  items-with f s items e =
      pairs-with f items
      ∙ ap (map (λ p. (symbol_map f p.0, p.1))) e
      ∙ ap (λ xs. (symbol_map f s.label, count s.kids) ∷ xs) (sym (preorder-relabel (symbol_map f) s.kids))
      ∙ ap (λ n. (symbol_map f s.label, n) ∷ preorder (relabel (symbol_map f) s.kids)) (sym (count-relabel (symbol_map f) s.kids))

  -- values that agree at the holes give the same sides
  relabel_same : (f g : P → Q) (ts : Trees (Symbol ℕ P)) → HolesAreLeaves ts → Each (λ x. f x ≡ g x) (holes ts) → relabel (symbol_map f) ts ≡ relabel (symbol_map g) ts
  relabel_same f g none l h = refl
  relabel_same f g (tree (label x) kids rest) l h =
      let parts = both (λ x. f x ≡ g x) (holes kids) (holes rest) h in
      ap (λ ks. tree (label x) ks (relabel (symbol_map f) rest)) (relabel_same f g kids l.0 parts.0)
      ∙ ap (tree (label x) (relabel (symbol_map g) kids)) (relabel_same f g rest l.1 parts.1)
    where
      both : (R : P → Type 0) (xs ys : List P) → Each R (xs ++ ys) → Each R xs × Each R ys
      both R [] ys h = (tt, h)
      both R (x ∷ xs) ys h = let more = both R xs ys h.1 in ((h.0, more.0), more.1)
  relabel_same f g (tree (hole p) none rest) l h =
      ap (λ q. tree (hole q) none (relabel (symbol_map f) rest)) h.0 ∙ ap (tree (hole (g p)) none) (relabel_same f g rest l h.1)
  relabel_same f g (tree (hole p) (tree s kids more) rest) l h = absurd l

  pub side_map_same : (f g : P → Q) (s : Side ℕ P) → HolesAreLeaves (only s) → Each (λ x. f x ≡ g x) (holes_of s) → side_map f s ≡ side_map g s
  side_map_same f g s l h = tree_same (side_map f s) (side_map g s) (relabel_same f g (only s) l h)

module _ {P : Type 0} where
  each_first : (R : P → Type 0) (x : Item P) (items : List (Item P)) → Each R (holes_in (x ∷ items)) → Each R (holes_in (x ∷ []))
  each_first R (Label f rank) items h = tt
  each_first R (Hole p) items h = (h.0, tt)

  each_rest : (R : P → Type 0) (x : Item P) (items : List (Item P)) → Each R (holes_in (x ∷ items)) → Each R (holes_in items)
  each_rest R (Label f rank) items h = h
  each_rest R (Hole p) items h = h.1

  -- what holds of all that items carry holds of what one of them carries
  pub each_item : (R : P → Type 0) (items : List (Item P)) (i : ℕ) (d : Item P) → i < length items → Each R (holes_in items) → Each R (holes_in (get_or items i d ∷ []))
  each_item R [] i d b h = absurd (omega arith)
  each_item R (x ∷ items) zero d b h = each_first R x items h
  each_item R (x ∷ items) (suc i) d b h = each_item R items i d (omega arith) (each_rest R x items h)

  -- what holds of all that a side carries holds of what its items carry
  pub each_of_side : (R : P → Type 0) (s : Side ℕ P) (items : List (Item P)) → pairs_of items ≡ preorder_of s → Each R (holes_of s) → Each R (holes_in items)
  each_of_side R s items is h = subst (Each R) (holes_of_items items s is) h

  -- a hole is in the list of what the items carry, after what those before it carry
  pub hole_at :
      (items : List (Item P)) (i : ℕ) (x d : P) → i < length items → get_or items i (Label 0 0) ≡ Hole x →
      (length (holes_in (take i items)) < length (holes_in items)) × (get_or (holes_in items) (length (holes_in (take i items))) d ≡ x)
  hole_at [] i x d b e = absurd (omega arith)
  hole_at (Label f rank ∷ items) zero x d b e = absurd (cc)
  hole_at (Hole p ∷ items) zero x d b e = (omega arith, cc)
  hole_at (Label f rank ∷ items) (suc i) x d b e = hole_at items i x d (omega arith) e
  hole_at (Hole p ∷ items) (suc i) x d b e = let more = hole_at items i x d (omega arith) e in (omega (arith, more.0), more.1)

  -- there is one more after it
  pub holes_past : (items : List (Item P)) (i : ℕ) (x : P) → i < length items → get_or items i (Label 0 0) ≡ Hole x → length (holes_in (take (i + 1) items)) ≡ suc (length (holes_in (take i items)))
  holes_past [] i x b e = absurd (omega arith)
  holes_past (Label f rank ∷ items) zero x b e = absurd (cc)
  holes_past (Hole p ∷ items) zero x b e = refl
  holes_past (Label f rank ∷ items) (suc i) x b e = let n : suc i + 1 ≡ suc (i + 1) = omega arith in ap (λ m. length (holes_in (take m (Label f rank ∷ items)))) n ∙ holes_past items i x (omega arith) e
  holes_past (Hole p ∷ items) (suc i) x b e =
      let n : suc i + 1 ≡ suc (i + 1) = omega arith in
      ap (λ m. length (holes_in (take m (Hole p ∷ items)))) n ∙ ap suc (holes_past items i x (omega arith) e)

  -- and none more after a label
  pub label_past : (items : List (Item P)) (i f rank : ℕ) → i < length items → get_or items i (Label 0 0) ≡ Label f rank → length (holes_in (take (i + 1) items)) ≡ length (holes_in (take i items))
  label_past [] i f rank b e = absurd (omega arith)
  label_past (Hole p ∷ items) zero f rank b e = absurd (cc)
  label_past (Label g r ∷ items) zero f rank b e = refl
  label_past (Label g r ∷ items) (suc i) f rank b e = let n : suc i + 1 ≡ suc (i + 1) = omega arith in ap (λ m. length (holes_in (take m (Label g r ∷ items)))) n ∙ label_past items i f rank (omega arith) e
  label_past (Hole p ∷ items) (suc i) f rank b e =
      let n : suc i + 1 ≡ suc (i + 1) = omega arith in
      ap (λ m. length (holes_in (take m (Hole p ∷ items)))) n ∙ ap suc (label_past items i f rank (omega arith) e)
