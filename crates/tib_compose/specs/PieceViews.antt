-- What pieces stand for.
use Rattle.std.specs.Prelude.{ℕ, ◌+◌, ◌<◌, List, length, drop}
use Rattle.std.proofs.Common.{get_or}
use Rattle.tib_tree.specs.Trees.{Trees, parse, first_of, first_trees, other_trees}
use Rattle.tib_grammar.specs.Sides.{Symbol, label, Side as SideFor}
use Rattle.tib_grammar.specs.declared.Item.{Item}
use Rattle.tib_grammar.specs.declared.Item.TheVariants.{Label, Hole}
use Rattle.tib_transducer.specs.declared.Pair.{Pair}
use Rattle.tib_key_edges.specs.Pieces.{Piece as PieceOf, put, read}
use Rattle.tib_compose.specs.declared.pending.Piece.{Piece}
use Rattle.tib_compose.specs.declared.pending.Piece.TheVariants.{Put, Read}

-- the side whose root is a node of a preorder, and the sides below a node
abbrev pub side_there : List (Symbol ℕ (Pair ℕ) × ℕ) → ℕ → SideFor ℕ (Pair ℕ)
side_there pairs i = first_of (label 0) (parse (drop i pairs))

abbrev pub kids_there : List (Symbol ℕ (Pair ℕ) × ℕ) → ℕ → ℕ → Trees (Symbol ℕ (Pair ℕ))
kids_there pairs i n = first_trees n (parse (drop (i + 1) pairs))

-- what a piece stands for
abbrev pub piece_of : List (Symbol ℕ (Pair ℕ) × ℕ) → Piece → PieceOf
piece_of pairs (Put f n) = put f n
piece_of pairs (Read i p) = read (side_there pairs i) p

-- what an item of a rule's right-hand side stands for below a node
abbrev pub piece_below : List (Symbol ℕ (Pair ℕ) × ℕ) → ℕ → Item (Pair ℕ) → PieceOf
piece_below pairs node (Label f n) = put f n
piece_below pairs node (Hole x) = read (first_of (label 0) (other_trees x.variable (parse (drop (node + 1) pairs)))) x.state

-- the variable of an item is below a rank
abbrev pub IsKnown : ℕ → Item (Pair ℕ) → Type 0
IsKnown rank (Label f n) = Unit {0}
IsKnown rank (Hole x) = x.variable < rank

-- that of each item is
abbrev pub AreKnown : ℕ → List (Item (Pair ℕ)) → Type 0
AreKnown rank items = (i : ℕ) → i < length items → IsKnown rank (get_or items i (Label 0 0))
