-- The first fault of a file, whatever a line may hold.
use Rattle.std.specs.Prelude.{◌≡◌, ◌⊎◌, ℕ, List, [], ◌∷◌, suc}
use Rattle.tib_lex.specs.Lines.{lines_of}
use Rattle.tib_lex.specs.declared.fault.FaultKind.{FaultKind}
use Rattle.tib_lex.specs.declared.fault.FileFault.{FileFault}

-- Of lines that are numbered from n, the first with a fault has this one: those before it hold what
-- they should.
abbrev pub FirstFault : (List ℕ → Type 0) → (List ℕ → FaultKind → Type 0) → ℕ → List (List ℕ) →
    FileFault → Type 0
FirstFault Holds HasFault n [] fault = ⊥
FirstFault Holds HasFault n (line ∷ lines) fault =
    ((fault.line ≡ n) × HasFault line fault.kind) ⊎ (Holds line × FirstFault Holds HasFault (suc n) lines fault)

-- the first fault of the lines of a file
abbrev pub IsFirstFault : (List ℕ → Type 0) → (List ℕ → FaultKind → Type 0) → List ℕ → FileFault →
    Type 0
IsFirstFault Holds HasFault bytes fault = FirstFault Holds HasFault 1 (lines_of bytes) fault
