-- What holds of the texts of tree-to-string transducers, and of the first fault of a file.
use Rattle.tib_cost.specs.declared.Scale.{Scale}
use Rattle.std.specs.Prelude.{◌≡◌, ℕ, List}
use Rattle.tib_lex.specs.Lists.{Distinct}
use Rattle.tib_lex.specs.declared.fault.FileFault.{FileFault}
use Rattle.tib_strings.specs.StringTransducerOf.{StringTransducerOf}
use Rattle.tib_strings.specs.TransducerText.{ReadsAs}
use Rattle.tib_strings.specs.FileFaults.{IsFirstFault}
use Rattle.tib_strings.specs.ByText.{AreOneStringTransducer}

-- bytes with a fault are the text of no transducer
abbrev pub TextsHaveNone : Type 0
TextsHaveNone =
    (scale : Scale) (bytes : List ℕ) (fault : FileFault) → IsFirstFault scale bytes fault → (labels : List (List ℕ)) (t : StringTransducerOf) →
    ReadsAs scale labels bytes t → ⊥

-- the bytes are the text of a transducer over some table of distinct labels
abbrev pub IsSomeText : Scale → List ℕ → Type 0
IsSomeText scale bytes =
    (labels : List (List ℕ)) × (t : StringTransducerOf) × Distinct labels × ReadsAs scale labels bytes t

-- the transducers of one text, each over a table of labels of its own, differ in the numbers of
-- labels alone
abbrev pub TextsMeanOne : Type 0
TextsMeanOne =
    (scale : Scale) (labels others : List (List ℕ)) (bytes : List ℕ) (t u : StringTransducerOf) → ReadsAs scale labels bytes t →
    ReadsAs scale others bytes u → AreOneStringTransducer labels others t u

-- over one table of distinct labels they are the same
abbrev pub TextHasOne : Type 0
TextHasOne =
    (scale : Scale) (labels : List (List ℕ)) (bytes : List ℕ) (t u : StringTransducerOf) → Distinct labels →
    ReadsAs scale labels bytes t → ReadsAs scale labels bytes u → t ≡ u
