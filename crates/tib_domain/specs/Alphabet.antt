-- The alphabet of a transducer, and trees over an alphabet.
use Rattle.std.specs.Prelude.{ℕ, ◌&&◌, nat_eq, Bool, List, [], ◌∷◌, ◌++◌}
use Rattle.indexmap.specs.IndexSet.{insert_all}
use Rattle.tib_lex.specs.Lists.{Has}
use Rattle.tib_tree.specs.Trees.{Trees, none, tree, count, preorder_of}
use Rattle.tib_grammar.specs.Sides.{Symbol, label, hole}
use Rattle.tib_transducer.specs.declared.TransducerRule.{TransducerRule}

-- A symbol of an alphabet is a label and a number of children.

-- whether two symbols are the same
abbrev pub same_symbol : ℕ × ℕ → ℕ × ℕ → Bool
same_symbol x y = nat_eq x.0 y.0 && nat_eq x.1 y.1

-- a label with a number of children, before others; a hole is none
abbrev pub with_symbol : {P : Type 0} → Symbol ℕ P → ℕ → List (ℕ × ℕ) → List (ℕ × ℕ)
with_symbol (label f) n xs = (f, n) ∷ xs
with_symbol (hole p) n xs = xs

-- the labels of a preorder with their numbers of children
abbrev pub symbols_in : {P : Type 0} → List (Symbol ℕ P × ℕ) → List (ℕ × ℕ)
symbols_in [] = []
symbols_in (x ∷ xs) = with_symbol x.0 x.1 (symbols_in xs)

-- those of the left sides of some rules
abbrev pub all_symbols : List (TransducerRule ℕ) → List (ℕ × ℕ)
all_symbols [] = []
all_symbols (r ∷ rs) = symbols_in (preorder_of r.left) ++ all_symbols rs

-- The alphabet: the labels of the left sides with their numbers of children, each once, in the
-- order of their first places.
abbrev pub alphabet : List (TransducerRule ℕ) → List (ℕ × ℕ)
alphabet rules = insert_all same_symbol [] (all_symbols rules)

-- each label of the trees is, with its number of children, one of the symbols
abbrev pub AreOver : List (ℕ × ℕ) → Trees ℕ → Type 0
AreOver symbols none = Unit {0}
AreOver symbols (tree f kids rest) = Has {A = ℕ × ℕ} symbols (f, count kids) × AreOver symbols kids × AreOver symbols rest
