-- Trees as they are printed, however their labels and leaves are written.
use Rattle.std.specs.Prelude.{ℕ, ◌<◌, List, [], ◌∷◌, ◌++◌, zero, suc}
use Rattle.std.proofs.Common.{get_or}
use Rattle.tib_lex.specs.Lists.{Each}
use Rattle.tib_tree.specs.Trees.{Trees, none, tree, only, count, preorder_of}
use Rattle.tib_grammar.specs.Sides.{Symbol, Side, label, hole}
use Rattle.tib_grammar.specs.declared.Item.{Item}
use Rattle.tib_grammar.specs.declared.Item.TheVariants.{Label, Hole}

-- a label, by its text in the table, or a leaf
abbrev pub symbol_text : {P : Type 0} → (List ℕ → List ℕ) → (P → List ℕ) → List (List ℕ) → Symbol ℕ P → List ℕ
symbol_text written leaf labels (label f) = written (get_or labels f [])
symbol_text written leaf labels (hole p) = leaf p

-- a space between trees
abbrev pub space : ℕ → List ℕ
space zero = []
space (suc k) = 32 ∷ []

-- parentheses around children, where there are any
abbrev pub opening : ℕ → List ℕ
opening zero = []
opening (suc n) = 40 ∷ []

abbrev pub closing : ℕ → List ℕ
closing zero = []
closing (suc n) = 41 ∷ []

-- trees after k others
abbrev pub trees_text : {P : Type 0} → (Symbol ℕ P → List ℕ) → Trees (Symbol ℕ P) → ℕ → List ℕ
trees_text show none k = []
trees_text show (tree s kids rest) k =
    space k ++ (show s ++ (opening (count kids) ++ (trees_text show kids 0 ++ (closing (count kids) ++ trees_text show rest (suc k)))))

-- a side
abbrev pub side_text : {P : Type 0} → (Symbol ℕ P → List ℕ) → Side ℕ P → List ℕ
side_text show s = trees_text show (only s) 0

-- an item or a symbol has a text: a label is below n, and a leaf has what it needs
abbrev pub IsWithin : {P : Type 0} → (P → Type 0) → ℕ → Item P → Type 0
IsWithin leaf n (Label f rank) = f < n
IsWithin leaf n (Hole p) = leaf p

abbrev pub IsSymbolWithin : {P : Type 0} → (P → Type 0) → ℕ → Symbol ℕ P → Type 0
IsSymbolWithin leaf n (label f) = f < n
IsSymbolWithin leaf n (hole p) = leaf p

-- each symbol of a side has one
abbrev pub IsSideWithin : {P : Type 0} → (P → Type 0) → ℕ → Side ℕ P → Type 0
IsSideWithin leaf n s = Each (λ p. IsSymbolWithin leaf n p.0) (preorder_of s)
