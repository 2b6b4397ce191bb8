-- Sides that are mapped, once and twice, their sizes and their holes.
use Rattle.std.specs.Prelude.{◌≡◌, ℕ, ◌+◌, ◌≤◌, List, length}
use Rattle.std.proofs.Common.{suc, arith, ap, ◌∙◌, refl}
use Rattle.std.proofs.lemmas.List.{length-append}
use Rattle.tib_tree.specs.Trees.{Trees, none, tree, only, relabel, size, sizes, preorder_of}
use Rattle.tib_tree.proofs.Counts.{length-preorder}
use Rattle.tib_grammar.specs.Sides.{Symbol, label, hole, Side as SideFor, symbol_map, side_map, holes, holes_of}
use Rattle.tib_grammar.specs.Items.{pairs_of}
use Rattle.tib_grammar.specs.declared.Item.{Item}
use Rattle.tib_grammar.proofs.ItemsAt.{length-pairs}

symbol_twice : {P Q R : Type 0} (f : P → Q) (g : Q → R) (s : Symbol ℕ P) → symbol_map g (symbol_map f s) ≡ symbol_map {A = ℕ} (λ p. g (f p)) s
symbol_twice f g (label x) = refl
symbol_twice f g (hole p) = refl

relabel_twice : {P Q R : Type 0} (f : P → Q) (g : Q → R) (ts : Trees (Symbol ℕ P)) → relabel (symbol_map g) (relabel (symbol_map f) ts) ≡ relabel (symbol_map (λ p. g (f p))) ts
relabel_twice f g none = refl
relabel_twice f g (tree s kids rest) =
    ap (λ x. tree x (relabel (symbol_map g) (relabel (symbol_map f) kids)) (relabel (symbol_map g) (relabel (symbol_map f) rest))) (symbol_twice f g s)
    ∙ ap (λ x. tree (symbol_map (λ p. g (f p)) s) x (relabel (symbol_map g) (relabel (symbol_map f) rest))) (relabel_twice f g kids)
    ∙ ap (λ x. tree (symbol_map (λ p. g (f p)) s) (relabel (symbol_map (λ p. g (f p))) kids) x) (relabel_twice f g rest)

-- a side that is mapped twice
pub side_twice : {P Q R : Type 0} (f : P → Q) (g : Q → R) (s : SideFor ℕ P) → side_map g (side_map f s) ≡ side_map (λ p. g (f p)) s
side_twice f g s =
    ap (λ x. record { label = x; kids = relabel (symbol_map g) (relabel (symbol_map f) s.kids) }) (symbol_twice f g s.label)
    ∙ ap (λ x. record { label = symbol_map (λ p. g (f p)) s.label; kids = x }) (relabel_twice f g s.kids)

sizes_mapped : {A B : Type 0} (f : A → B) (ts : Trees A) → sizes (relabel f ts) ≡ sizes ts
sizes_mapped f none = refl
sizes_mapped f (tree s kids rest) = omega (arith, sizes_mapped f kids, sizes_mapped f rest)

-- a mapped side has the size of the side
pub size_mapped : {P Q : Type 0} (f : P → Q) (s : SideFor ℕ P) → size (side_map f s) ≡ size s
size_mapped f s = omega (arith, sizes_mapped (symbol_map f) s.kids)

-- a side has as many nodes as items
pub items_size : {P : Type 0} (items : List (Item P)) (s : SideFor ℕ P) → pairs_of items ≡ preorder_of s → length items ≡ size s
items_size items s e = omega (arith, length-pairs items, ap length e, length-preorder s.kids)

holes_few : {P : Type 0} (ts : Trees (Symbol ℕ P)) → length (holes ts) ≤ sizes ts
holes_few none = omega arith
holes_few (tree (label f) kids rest) = omega (arith, length-append (holes kids) (holes rest), holes_few kids, holes_few rest)
holes_few (tree (hole p) kids rest) = omega (arith, holes_few rest)

-- and no more holes than nodes
pub holes_within : {P : Type 0} (s : SideFor ℕ P) → length (holes_of s) ≤ size s
holes_within s = by (holes_few (only s))
  where
    by : length (holes_of s) ≤ suc (sizes s.kids + 0) → length (holes_of s) ≤ size s
    by h = omega (arith, h)
