-- Where the rules of a transducer file begin, whatever is read of a rule line.
use Rattle.std.specs.Prelude.{◌≡◌, ◌+◌, ◌<◌, ◌≤◌, ℕ, List, Option, Result, Ok, Err, length, drop}
use Rattle.tib_lex.specs.Lines.{lines_of, each_line}
use Rattle.tib_lex.specs.declared.fault.FaultKind.{FaultKind}
use Rattle.tib_lex.specs.declared.fault.ReadError.{ReadError}
use Rattle.tib_lex.specs.declared.fault.ReadError.TheVariants as errors
use Rattle.tib_tree.specs.Grows.{Adds}
use Rattle.tib_grammar_file.specs.Reading.{started}
use Rattle.tib_transducer_file.specs.Reading.{file_from}
use Rattle.tib_transducer_file.specs.Rule.{RuleLine}
use Rattle.tib_transducer_file.specs.declared.start.Begun.{Begun}

-- the start was found, and the rules begin at a place
pub record Began (bytes : List ℕ) (before names : List (List ℕ)) (b : Begun) : Type 0 where
  pub start : List ℕ
  pub read : (rule : List ℕ → Result (Option RuleLine) FaultKind) →
      file_from rule 1 (lines_of bytes) ≡ started start (each_line rule b.number (lines_of (drop b.at bytes)))
  pub adds : Adds before start names
  pub some : 0 < b.at
  pub place : b.at ≤ length bytes
  pub few : b.number ≤ b.at + 1

abbrev pub IsBegun : List ℕ → List (List ℕ) → List (List ℕ) → Result Begun ReadError → Type 0
IsBegun bytes before names (Ok b) = Began bytes before names b
IsBegun bytes before names (Err (errors.Fault fault)) =
    (rule : List ℕ → Result (Option RuleLine) FaultKind) → file_from rule 1 (lines_of bytes) ≡ Err fault
IsBegun bytes before names (Err errors.OutOfMemory) = Unit {0}
