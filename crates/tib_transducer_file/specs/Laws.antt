-- What holds of the texts of transducers, and of the first fault of a file.
use Rattle.tib_cost.specs.declared.Scale.{Scale}
use Rattle.std.specs.Prelude.{◌≡◌, ◌⊎◌, ℕ, List, Result, Err}
use Rattle.tib_lex.specs.Lists.{Distinct}
use Rattle.tib_lex.specs.declared.fault.FileFault.{FileFault}
use Rattle.tib_transducer.specs.TransducerOf.{TransducerOf}
use Rattle.tib_transducer_file.specs.TransducerText.{ReadsAs}
use Rattle.tib_transducer_file.specs.Rule.{RuleLine}
use Rattle.tib_transducer_file.specs.Faults.{IsFirstFault}
use Rattle.tib_transducer_file.specs.ByText.{AreOneTransducer}

-- what is read of a file is a fault exactly where the format says that it is the first
abbrev pub GivesFaults : (Scale → List ℕ → Result (List ℕ × List RuleLine) FileFault) →
    (Scale → List ℕ → FileFault → Type 0) → Type 0
GivesFaults read IsFirst =
    (scale : Scale) (bytes : List ℕ) (fault : FileFault) →
    (read scale bytes ≡ Err fault → IsFirst scale bytes fault)
    × (IsFirst scale bytes fault → read scale bytes ≡ Err fault)

-- bytes with a fault are the text of no transducer
abbrev pub TextsHaveNone : Type 0
TextsHaveNone =
    (scale : Scale) (bytes : List ℕ) (fault : FileFault) → IsFirstFault scale bytes fault → (labels : List (List ℕ)) (t : TransducerOf) →
    ReadsAs scale labels bytes t → ⊥

-- a file has one first fault
abbrev pub FirstIsOne : (Scale → List ℕ → FileFault → Type 0) → Type 0
FirstIsOne IsFirst =
    (scale : Scale) (bytes : List ℕ) (fault other : FileFault) →
    IsFirst scale bytes fault → IsFirst scale bytes other → fault ≡ other

-- each file is a text, or has a first fault
abbrev pub TextOrFault : (Scale → List ℕ → Type 0) → (Scale → List ℕ → FileFault → Type 0) → Type 0
TextOrFault IsText IsFirst =
    (scale : Scale) (bytes : List ℕ) →
    IsText scale bytes ⊎ ((fault : FileFault) × IsFirst scale bytes fault)

-- the bytes are the text of a transducer over some table of distinct labels
abbrev pub IsSomeText : Scale → List ℕ → Type 0
IsSomeText scale bytes =
    (labels : List (List ℕ)) × (t : TransducerOf) × Distinct labels × ReadsAs scale labels bytes t

-- the transducers of one text, each over a table of labels of its own, differ in the numbers of
-- labels alone
abbrev pub TextsMeanOne : Type 0
TextsMeanOne =
    (scale : Scale) (labels others : List (List ℕ)) (bytes : List ℕ) (t u : TransducerOf) → ReadsAs scale labels bytes t →
    ReadsAs scale others bytes u → AreOneTransducer labels others t u

-- over one table of distinct labels they are the same
abbrev pub TextHasOne : Type 0
TextHasOne =
    (scale : Scale) (labels : List (List ℕ)) (bytes : List ℕ) (t u : TransducerOf) → Distinct labels →
    ReadsAs scale labels bytes t → ReadsAs scale labels bytes u → t ≡ u
