-- Rules whose labels and states have texts.
use Rattle.std.specs.Prelude.{ℕ, ◌<◌, List, length}
use Rattle.tib_transducer.specs.declared.Variable.{Variable}
use Rattle.tib_transducer.specs.declared.Pair.{Pair}
use Rattle.tib_transducer.specs.declared.TransducerRule.{TransducerRule}
use Rattle.tib_transducer_file.specs.Labelled.{IsAskedBelow}
pub use Rattle.tib_grammar_file.specs.TreeText.{IsWithin, IsSymbolWithin, IsSideWithin}

-- the texts that a leaf needs are there
abbrev pub IsVariableWithin : List (List ℕ) → List (List ℕ) → Variable → Type 0
IsVariableWithin names labels x = IsAskedBelow (length labels) x.label

abbrev pub IsPairWithin : List (List ℕ) → List (List ℕ) → Pair ℕ → Type 0
IsPairWithin names labels x = x.state < length names

-- the texts that a rule needs are there
pub record IsRuleWithin (names labels : List (List ℕ)) (r : TransducerRule ℕ) : Type 0 where
  pub state : r.state < length names
  pub left : IsSideWithin (IsVariableWithin names labels) (length labels) r.left
  pub right : IsSideWithin (IsPairWithin names labels) (length labels) r.right
