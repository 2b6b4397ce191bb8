-- What holds of the texts of strings, and of the first fault of a file.
use Rattle.std.specs.Prelude.{◌≡◌, ◌⊎◌, ℕ, List, Err}
use Rattle.tib_lex.specs.Lists.{Distinct}
use Rattle.tib_lex.specs.declared.fault.FileFault.{FileFault}
use Rattle.tib_strings.specs.StringText.{ReadsAsString, words_of_string}
use Rattle.tib_strings.specs.StringFaults.{IsFirstStringFault}
use Rattle.tib_strings.specs.StringReading.{string_in}

-- `string_in` is a fault exactly where this is the first of the file
abbrev pub GivesStringFaults : Type 0
GivesStringFaults =
    (bytes : List ℕ) (fault : FileFault) →
    (string_in bytes ≡ Err fault → IsFirstStringFault bytes fault)
    × (IsFirstStringFault bytes fault → string_in bytes ≡ Err fault)

-- bytes with a fault are the text of no string
abbrev pub TextsHaveNone : Type 0
TextsHaveNone =
    (bytes : List ℕ) (fault : FileFault) → IsFirstStringFault bytes fault → (labels : List (List ℕ)) (s : List ℕ) →
    ReadsAsString labels bytes s → ⊥

-- they have one first fault
abbrev pub FirstIsOne : Type 0
FirstIsOne = (bytes : List ℕ) (fault other : FileFault) → IsFirstStringFault bytes fault → IsFirstStringFault bytes other → fault ≡ other

-- each file is the text of a string over some table of distinct labels, or has a first fault
abbrev pub TextOrFault : Type 0
TextOrFault =
    (bytes : List ℕ) →
    ((labels : List (List ℕ)) × (s : List ℕ) × Distinct labels × ReadsAsString labels bytes s)
    ⊎ ((fault : FileFault) × IsFirstStringFault bytes fault)

-- the strings of one text, each over a table of labels of its own, have the same words
abbrev pub TextsMeanOne : Type 0
TextsMeanOne =
    (labels others : List (List ℕ)) (bytes s r : List ℕ) → ReadsAsString labels bytes s → ReadsAsString others bytes r →
    words_of_string labels s ≡ words_of_string others r

-- over one table of distinct labels they are the same
abbrev pub TextHasOne : Type 0
TextHasOne =
    (labels : List (List ℕ)) (bytes s r : List ℕ) → Distinct labels → ReadsAsString labels bytes s → ReadsAsString labels bytes r → s ≡ r
