-- The items of sides that carry something by place.
use Rattle.std.specs.Prelude.{◌≡◌, ℕ, ◌+◌, List, [], ◌∷◌, ◌++◌, length, refl}
use Rattle.std.proofs.Common.{suc, arith, ap, sym, ◌∙◌, subst, append_assoc}
use Rattle.std.proofs.lemmas.List.{length-append}
use Rattle.tib_lex.proofs.Lists.{append_nil}
use Rattle.tib_tree.specs.Trees.{Trees, none, tree, count, only, preorder, preorder_of, parse, parse_of, IsOneTree, IsOneTree-preorder_of}
use Rattle.tib_tree.proofs.Counts.{tree_same}
use Rattle.tib_grammar.specs.Sides.{Symbol, label, hole, Side, holes, HolesAreLeaves}
use Rattle.tib_grammar.specs.Items.{pairs_of}
use Rattle.tib_grammar.specs.declared.Item.{Item}
use Rattle.tib_grammar.specs.declared.Item.TheVariants.{Label, Hole}
use Rattle.tib_rulewise.specs.Placed.{placed, placed_side, placed_items}

-- sides with one preorder are the same
pub side_same : {P : Type 0} (s t : Side ℕ P) → preorder_of s ≡ preorder_of t → s ≡ t
side_same s t e = tree_same s t (sym (parse_of s) ∙ ap parse e ∙ parse_of t)

-- the items of a side are those of one tree
pub one_tree : {P : Type 0} (items : List (Item P)) (s : Side ℕ P) → pairs_of items ≡ preorder_of s → IsOneTree (pairs_of items)
one_tree items s e = subst IsOneTree (sym e) (IsOneTree-preorder_of s)

module _ {P Q : Type 0} (g : ℕ → P → Q) where
  -- a preorder with what g gives for each place in the holes
  abbrev placed_pairs : ℕ → List (Symbol ℕ P × ℕ) → List (Symbol ℕ Q × ℕ)
  placed_pairs n [] = []
  placed_pairs n ((label f, rank) ∷ xs) = (label f, rank) ∷ placed_pairs n xs
  placed_pairs n ((hole p, rank) ∷ xs) = (hole (g n p), rank) ∷ placed_pairs (suc n) xs

  pairs-placed : (n : ℕ) (items : List (Item P)) → pairs_of (placed_items g n items) ≡ placed_pairs n (pairs_of items)
  pairs-placed n [] = refl
  pairs-placed n (Label f rank ∷ items) = ap (λ xs. (label f, rank) ∷ xs) (pairs-placed n items)
  pairs-placed n (Hole p ∷ items) = ap (λ xs. (hole (g n p), 0) ∷ xs) (pairs-placed (suc n) items)

  count-placed : (n : ℕ) (ts : Trees (Symbol ℕ P)) → count (placed g n ts) ≡ count ts
  count-placed n none = refl
  count-placed n (tree (label f) kids rest) = ap suc (count-placed (n + length (holes kids)) rest)
  count-placed n (tree (hole p) kids rest) = ap suc (count-placed (suc n) rest)

  preorder-placed :
      (n : ℕ) (ts : Trees (Symbol ℕ P)) (xs : List (Symbol ℕ P × ℕ)) → HolesAreLeaves ts →
      placed_pairs n (preorder ts ++ xs) ≡ preorder (placed g n ts) ++ placed_pairs (n + length (holes ts)) xs
  preorder-placed n none xs h =
      let e : n ≡ n + 0 = omega arith in
      ap (λ m. placed_pairs m xs) e
  preorder-placed n (tree (label f) kids rest) xs h =
      let k : ℕ = length (holes kids) in
      let inner : List (Symbol ℕ Q × ℕ) = preorder (placed g n kids) in
      let outer : List (Symbol ℕ Q × ℕ) = preorder (placed g (n + k) rest) in
      let long : (n + k) + length (holes rest) ≡ n + length (holes kids ++ holes rest) = omega (arith, length-append (holes kids) (holes rest)) in
      ap (λ ys. (label f, count kids) ∷ placed_pairs n ys) (append_assoc (preorder kids) (preorder rest) xs)
      ∙ ap (λ ys. (label f, count kids) ∷ ys) (preorder-placed n kids (preorder rest ++ xs) h.0)
      ∙ ap (λ ys. (label f, count kids) ∷ (inner ++ ys)) (preorder-placed (n + k) rest xs h.1)
      ∙ ap (λ m. (label f, count kids) ∷ (inner ++ (outer ++ placed_pairs m xs))) long
      ∙ ap (λ ys. (label f, count kids) ∷ ys) (sym (append_assoc inner outer (placed_pairs (n + length (holes kids ++ holes rest)) xs)))
      ∙ ap (λ c. (label f, c) ∷ ((inner ++ outer) ++ placed_pairs (n + length (holes kids ++ holes rest)) xs)) (sym (count-placed n kids))
  preorder-placed n (tree (hole p) none rest) xs h =
      let outer : List (Symbol ℕ Q × ℕ) = preorder (placed g (suc n) rest) in
      let long : suc n + length (holes rest) ≡ n + suc (length (holes rest)) = omega arith in
      ap (λ ys. (hole (g n p), 0) ∷ ys) (preorder-placed (suc n) rest xs h)
      ∙ ap (λ m. (hole (g n p), 0) ∷ (outer ++ placed_pairs m xs)) long
  preorder-placed n (tree (hole p) (tree s kids more) rest) xs h = absurd h

  side-placed : (s : Side ℕ P) → HolesAreLeaves (only s) → preorder_of (placed_side g s) ≡ placed_pairs 0 (preorder_of s)
  side-placed s h = by s.label s.kids h
    where
      by :
          (x : Symbol ℕ P) (kids : Trees (Symbol ℕ P)) → HolesAreLeaves (tree x kids none) →
          preorder_of (placed_side g (record { label = x; kids = kids })) ≡ placed_pairs 0 ((x, count kids) ∷ preorder kids)
      by (label f) kids h =
          ap (λ c. (label f, c) ∷ preorder (placed g 0 kids)) (count-placed 0 kids)
          ∙ ap (λ ys. (label f, count kids) ∷ ys)
          (sym (append_nil (preorder (placed g 0 kids))) ∙ sym (preorder-placed 0 kids [] h.0) ∙ ap (placed_pairs 0) (append_nil (preorder kids)))
      by (hole p) none h = refl
      by (hole p) (tree s kids more) h = absurd h

  -- the items by place are those of the side by place
  pub items-placed : (items : List (Item P)) (s : Side ℕ P) → pairs_of items ≡ preorder_of s → HolesAreLeaves (only s) → pairs_of (placed_items g 0 items) ≡ preorder_of (placed_side g s)
  items-placed items s e h = pairs-placed 0 items ∙ ap (placed_pairs 0) e ∙ sym (side-placed s h)
