-- What holds of the first fault of a grammar file.
use Rattle.tib_cost.specs.declared.Scale.{Scale}
use Rattle.std.specs.Prelude.{◌≡◌, ◌⊎◌, ℕ, List, Err}
use Rattle.tib_lex.specs.Lists.{Distinct}
use Rattle.tib_lex.specs.declared.fault.FileFault.{FileFault}
use Rattle.tib_grammar.specs.GrammarOf.{GrammarOf}
use Rattle.tib_grammar_file.specs.Faults.{IsFirstFault}
use Rattle.tib_grammar_file.specs.Read.{ReadsAs}
use Rattle.tib_grammar_file.specs.Reading.{grammar_of}

-- `grammar_of` is a fault exactly where this is the first of the file
abbrev pub GivesFaults : Type 0
GivesFaults =
    (scale : Scale) (bytes : List ℕ) (fault : FileFault) →
    (grammar_of scale bytes ≡ Err fault → IsFirstFault scale bytes fault) × (IsFirstFault scale bytes fault → grammar_of scale bytes ≡ Err fault)

-- a file has at most one first fault
abbrev pub HasOneFault : Type 0
HasOneFault =
    (scale : Scale) (bytes : List ℕ) (fault other : FileFault) → IsFirstFault scale bytes fault →
    IsFirstFault scale bytes other → fault ≡ other

-- a text within the limit on nodes has no fault
abbrev pub TextsHaveNone : Type 0
TextsHaveNone =
    (scale : Scale) (bytes : List ℕ) (fault : FileFault) → IsFirstFault scale bytes fault →
    (labels : List (List ℕ)) (g : GrammarOf) → ReadsAs scale labels bytes g → ⊥

-- the bytes are the text of a grammar within that limit, over some table of distinct labels
abbrev pub IsSomeText : Scale → List ℕ → Type 0
IsSomeText scale bytes =
    (labels : List (List ℕ)) × (g : GrammarOf) × Distinct labels × ReadsAs scale labels bytes g

-- each file is such a text, or has a first fault
abbrev pub TextOrFault : Type 0
TextOrFault =
    (scale : Scale) (bytes : List ℕ) → IsSomeText scale bytes
    ⊎ ((fault : FileFault) × IsFirstFault scale bytes fault)
