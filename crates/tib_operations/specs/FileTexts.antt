-- When the bytes of a file are the text of a value.
pub use Rattle.tib_lex.specs.Limits.{most_bytes}
use Rattle.tib_cost.specs.declared.Scale.{Scale}
use Rattle.std.specs.Prelude.{ℕ, ◌<◌, ◌≤◌, List, length}
use Rattle.tib_lex.specs.Lists.{Each}
use Rattle.tib_tree.specs.Trees.{Tree}
use Rattle.tib_tree.specs.TreesText.{TreesText, IsSmall}
use Rattle.tib_grammar.specs.GrammarOf.{GrammarOf}
use Rattle.tib_grammar_file.specs.Read.{ReadsAs}
use Rattle.tib_transducer.specs.TransducerOf.{TransducerOf}
use Rattle.tib_transducer_file.specs.TransducerText.{ReadsAs as ReadsAsTransducer}

-- a file that is read is not longer than `most_bytes`
abbrev pub IsShort : List ℕ → Type 0
IsShort bytes = length bytes ≤ most_bytes

abbrev pub IsLong : List ℕ → Type 0
IsLong bytes = most_bytes < length bytes

-- the grammar of the text, with no right-hand side too large
abbrev pub IsRead : Scale → List (List ℕ) → GrammarOf → List ℕ → Type 0
IsRead scale labels g bytes = IsShort bytes × ReadsAs scale labels bytes g

-- the trees of the text, none of them too large
abbrev pub ListsTrees : List (List ℕ) → List (Tree ℕ) → List ℕ → Type 0
ListsTrees labels trees bytes = IsShort bytes × TreesText labels bytes trees × Each IsSmall trees

-- the transducer of the text, with no side too large
abbrev pub IsTransducerRead : Scale → List (List ℕ) → TransducerOf → List ℕ → Type 0
IsTransducerRead scale labels t bytes = IsShort bytes × ReadsAsTransducer scale labels bytes t
