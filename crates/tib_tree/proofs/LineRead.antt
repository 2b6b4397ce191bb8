-- What a line of a tree file holds, by what was read from it.
use Rattle.std.proofs.Common.{◌≡◌, ℕ, ◌<◌, ◌≤◌, List, [], ◌∷◌, length, refl, ap, sym, ◌∙◌, subst, arith, Option}
use Rattle.std.specs.Prelude.{Some, None, Ok, Err, map, nat_lt, cond}
use Rattle.std.proofs.lemmas.List.{length-map, length-reverse}
use Rattle.std.specs.List.{All}
use Rattle.std.proofs.lemmas.Bool.Decides.{nat_tests}
use Rattle.tib_lex.specs.Line.{words_of, words_at}
use Rattle.tib_lex.specs.declared.token.Token.{Token}
use Rattle.tib_tree.specs.Written.{Item}
use Rattle.tib_tree.specs.Machine.{nodes_of}
use Rattle.tib_tree.specs.Lines.{tree_line, small_tree}
use Rattle.tib_tree.specs.Shape.{items_back, item_at}
use Rattle.tib_tree.specs.Nodes.{AreNodes}
use Rattle.tib_tree.specs.Trees.{Tree, preorder_of}
use Rattle.tib_tree.specs.declared.shape.Place.{Place}
use Rattle.tib_lex.specs.declared.fault.FaultKind.TheVariants as kinds
use Rattle.tib_tree.specs.Trees.{most_nodes}

pub bad_line : (line : List ℕ) → words_of line ≡ None → tree_line line ≡ Err kinds.BadToken
unfolding tree_line
bad_line line e = rw e refl

pub blank_line : (line : List ℕ) (ts : List Token) → words_of line ≡ Some (words_at line ts) → length ts ≡ 0 → tree_line line ≡ Ok None
unfolding tree_line
blank_line line [] e h = rw e refl
blank_line line (t ∷ ts) e h = absurd (omega arith)

tree_of_words : (line : List ℕ) (ts : List Token) (o : Option (List Item)) → words_of line ≡ Some (words_at line ts) → 0 < length ts → nodes_of (words_at line ts) ≡ o → tree_line line ≡ small_tree o
unfolding tree_line
tree_of_words line [] o e h n = absurd (omega arith)
tree_of_words line (t ∷ ts) o e h n = rw (e, n) refl

pub no_tree_line : (line : List ℕ) (ts : List Token) → words_of line ≡ Some (words_at line ts) → 0 < length ts → nodes_of (words_at line ts) ≡ None → tree_line line ≡ Err kinds.BadTree
no_tree_line line ts e h n = tree_of_words line ts None e h n

pub back_long : (line : List ℕ) (places : List Place) → length (items_back line places) ≡ length places
back_long line places = length-reverse (map (item_at line) places) ∙ length-map places (item_at line)

-- which of two results is returned, by the limit on nodes
pub chosen : {A : Type 0} (n m : ℕ) (x y : A) → n ≡ m → (m ≤ most_nodes → cond (nat_lt most_nodes n) x y ≡ y) × (most_nodes < m → cond (nat_lt most_nodes n) x y ≡ x)
chosen n m x y e = (λ h. grind (arith, nat_tests), λ h. grind (arith, nat_tests))

pub large_line : (line : List ℕ) (ts : List Token) (places : List Place) → words_of line ≡ Some (words_at line ts) → 0 < length ts → nodes_of (words_at line ts) ≡ Some (items_back line places) → most_nodes < length places → tree_line line ≡ Err kinds.TooManyNodes
large_line line ts places e h n large =
    tree_of_words line ts (Some (items_back line places)) e h n ∙ (chosen (length (items_back line places)) (length places) _ _ (back_long line places)).1 large

pub good_line : (line : List ℕ) (ts : List Token) (places : List Place) → words_of line ≡ Some (words_at line ts) → 0 < length ts → nodes_of (words_at line ts) ≡ Some (items_back line places) → length places ≤ most_nodes → tree_line line ≡ Ok (Some (items_back line places))
good_line line ts places e h n small =
    tree_of_words line ts (Some (items_back line places)) e h n ∙ (chosen (length (items_back line places)) (length places) _ _ (back_long line places)).0 small

-- the same for a copy of the tokens
pub same_tokens : (line : List ℕ) (ts us : List Token) (o : Option (List Item)) → us ≡ ts → nodes_of (words_at line us) ≡ o → nodes_of (words_at line ts) ≡ o
same_tokens line ts us o e h = ap (λ (xs : List Token). nodes_of (words_at line xs)) (sym e) ∙ h

pub same_all : {X : Type 0} (P : X → Type 0) (xs ys : List X) → ys ≡ xs → All P xs → All P ys
same_all P xs ys e h = subst (λ zs. All P zs) (sym e) h

-- the nodes of a tree that was made of a copy of the places
pub tree_nodes : (labels : List (List ℕ)) (line : List ℕ) (t : Tree ℕ) (nodes : List (ℕ × ℕ)) (again places : List Place) → preorder_of t ≡ nodes → again ≡ places → AreNodes labels nodes (items_back line again) → AreNodes labels (preorder_of t) (items_back line places)
tree_nodes labels line t nodes again places p e h =
    subst (λ (ns : List (ℕ × ℕ)). AreNodes labels ns (items_back line places)) (sym p) (subst (λ (ps : List Place). AreNodes labels nodes (items_back line ps)) e h)
