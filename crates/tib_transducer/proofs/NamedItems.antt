-- Items of a right side with their states exchanged are those of the side with its states
-- exchanged.
use Rattle.std.specs.Prelude.{◌≡◌, List, [], ◌∷◌, map, refl, ℕ}
use Rattle.std.proofs.Common.{ap, sym, ◌∙◌, subst}
use Rattle.tib_tree.specs.Trees.{count, preorder, preorder_of, relabel, IsOneTree, IsOneTree-preorder_of}
use Rattle.tib_tree.proofs.Counts.{count-relabel}
use Rattle.tib_grammar.specs.Sides.{label, hole, symbol_map, Side as SideFor, side_map, Symbol}
use Rattle.tib_grammar.specs.Items.{pairs_of}
use Rattle.tib_grammar.specs.declared.Item.{Item}
use Rattle.tib_grammar.specs.declared.Item.TheVariants.{Label, Hole}
use Rattle.tib_grammar.proofs.Renamed.{preorder-relabel}
use Rattle.tib_transducer.specs.declared.Pair.{Pair}
use Rattle.tib_transducer.specs.NamedPairs.{named_pair, named_item}

-- the symbols and ranks of named items
pub pairs-named : {P Q : Type 0} (g : P → Q) (items : List (Item (Pair P))) → pairs_of (map (named_item g) items) ≡ map (λ p. (symbol_map (named_pair g) p.0, p.1)) (pairs_of items)
pairs-named g [] = refl
pairs-named g (Label f rank ∷ items) = ap (λ xs. (label f, rank) ∷ xs) (pairs-named g items)
pairs-named g (Hole x ∷ items) = ap (λ xs. (hole (named_pair g x), 0) ∷ xs) (pairs-named g items)

-- named items are the preorder of the named side
pub preorder-named : {P Q : Type 0} (g : P → Q) (s : SideFor ℕ (Pair P)) (items : List (Item (Pair P))) → pairs_of items ≡ preorder_of s → pairs_of (map (named_item g) items) ≡ preorder_of (side_map (named_pair g) s)
preorder-named g s items e =
    pairs-named g items
    ∙ ap (map (λ p. (symbol_map (named_pair g) p.0, p.1))) e
    ∙ ap (λ xs. (symbol_map (named_pair g) s.label, count s.kids) ∷ xs) (sym (preorder-relabel (symbol_map (named_pair g)) s.kids))
    ∙ ap (λ n. (symbol_map (named_pair g) s.label, n) ∷ preorder (relabel (symbol_map (named_pair g)) s.kids)) (sym (count-relabel (symbol_map (named_pair g)) s.kids))

-- the items of a side are those of one tree
pub one_tree : {P : Type 0} (xs : List (Symbol ℕ P × ℕ)) (s : SideFor ℕ P) → xs ≡ preorder_of s → IsOneTree xs
one_tree xs s e = subst IsOneTree (sym e) (IsOneTree-preorder_of s)
