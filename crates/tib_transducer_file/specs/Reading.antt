-- What is read of a file: its start and its rules, or its first fault.
use Rattle.tib_cost.specs.declared.Scale.{Scale}
use Rattle.std.specs.Prelude.{ℕ, List, [], ◌∷◌, Option, Result, Err, suc}
use Rattle.tib_lex.specs.Lines.{lines_of, each_line}
use Rattle.tib_lex.specs.declared.fault.FaultKind.{FaultKind}
use Rattle.tib_lex.specs.declared.fault.FaultKind.TheVariants as kinds
use Rattle.tib_lex.specs.declared.fault.FileFault.{FileFault}
use Rattle.tib_grammar_file.specs.Reading.{fault_at, start_line, with_start}
use Rattle.tib_transducer_file.specs.Rule.{RuleLine, rule_line}

-- the start and the rules of the lines from a number on, whatever is read of a rule line
abbrev pub file_from : (List ℕ → Result (Option RuleLine) FaultKind) → ℕ → List (List ℕ) →
    Result (List ℕ × List RuleLine) FileFault
file_from rule n [] = Err (fault_at 1 kinds.NoStart)
file_from rule n (line ∷ lines) =
    with_start n (start_line line) (each_line rule (suc n) lines) (file_from rule (suc n) lines)

abbrev pub transducer_from : Scale → ℕ → List (List ℕ) → Result (List ℕ × List RuleLine) FileFault
transducer_from scale n lines = file_from (rule_line scale) n lines

-- the start and the rules of a file, or its first fault
unfoldable pub transducer_in : Scale → List ℕ → Result (List ℕ × List RuleLine) FileFault
transducer_in scale bytes = transducer_from scale 1 (lines_of bytes)
