-- What a grammar that is read adds to the table of labels.
use Rattle.std.specs.Prelude.{◌≡◌, ℕ, List, [], ◌∷◌, ◌++◌, Some, slice_get}
use Rattle.std.proofs.Common.{get_or}
use Rattle.tib_lex.specs.declared.fault.ReadError.{ReadError}
use Rattle.tib_lex.specs.declared.fault.ReadError.TheVariants.{Fault, OutOfMemory}
use Rattle.tib_tree.specs.Grows.{Adds}
use Rattle.tib_tree.specs.Trees.{preorder_of}
use Rattle.tib_grammar.specs.Sides.{Symbol, label, hole}
use Rattle.tib_grammar.specs.declared.Rule.{Rule}

-- the text of a label, and none of a state
abbrev pub symbol_texts : List (List ℕ) → Symbol ℕ ℕ → List (List ℕ)
symbol_texts labels (label f) = get_or labels f [] ∷ []
symbol_texts labels (hole q) = []

-- those of some nodes
abbrev pub node_texts : List (List ℕ) → List (Symbol ℕ ℕ × ℕ) → List (List ℕ)
node_texts labels [] = []
node_texts labels (p ∷ ps) = symbol_texts labels p.0 ++ node_texts labels ps

-- the texts of the labels of rules, in the order of the rules and each right-hand side in preorder
abbrev pub rule_texts : List (List ℕ) → List (Rule ℕ) → List (List ℕ)
rule_texts labels [] = []
rule_texts labels (r ∷ rules) = node_texts labels (preorder_of r.right) ++ rule_texts labels rules

-- a fault leaves a table as it was; running out of memory may not
abbrev pub KeptByFault : ReadError → List (List ℕ) → List (List ℕ) → Type 0
KeptByFault (Fault fault) before now = now ≡ before
KeptByFault OutOfMemory before now = Unit {0}

-- a label's text is added after the others if it is new, and a state changes nothing
abbrev pub AddsSymbol : List (List ℕ) → Symbol ℕ ℕ → List (List ℕ) → Type 0
AddsSymbol before (label f) now =
    (text : List ℕ) × (slice_get now f ≡ Some text) × Adds before text now
AddsSymbol before (hole q) now = now ≡ before

-- nodes one after another
abbrev pub AddsSymbols : List (List ℕ) → List (Symbol ℕ ℕ × ℕ) → List (List ℕ) → Type 0
AddsSymbols before [] now = now ≡ before
AddsSymbols before (p ∷ ps) now =
    (middle : List (List ℕ)) × AddsSymbol before p.0 middle × AddsSymbols middle ps now

-- rules one after another
abbrev pub AddsRules : List (List ℕ) → List (Rule ℕ) → List (List ℕ) → Type 0
AddsRules before [] now = now ≡ before
AddsRules before (r ∷ rules) now =
    (middle : List (List ℕ)) × AddsSymbols before (preorder_of r.right) middle
    × AddsRules middle rules now
