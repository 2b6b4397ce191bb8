-- Normal forms of a grammar, and the names of their states.
use Rattle.std.specs.Prelude.{◌≡◌, ℕ, List, ◌++◌}
use Rattle.tib_grammar.specs.GrammarOf.{GrammarOf}
use Rattle.tib_canon.specs.TrimmedForms.{IsTrimmedForm}

-- the states of g keep their names and numbers in m, and the names of other states follow
abbrev pub KeepsNames : GrammarOf → GrammarOf → Type 0
KeepsNames g m = (rest : List (List ℕ)) × (m.names ≡ g.names ++ rest)

-- m is a normal form of g that keeps the names, trimmed
abbrev pub IsNamedForm : (ℕ → ℕ → ℕ) → GrammarOf → GrammarOf → Type 0
IsNamedForm product g m = (is : IsTrimmedForm product g m) × KeepsNames g is.normal
