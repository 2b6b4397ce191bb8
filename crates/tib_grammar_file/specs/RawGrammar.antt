-- What was read from a grammar file before name resolution.
use Rattle.tib_cost.specs.declared.Scale.{Scale}
use Rattle.std.specs.Prelude.{◌≡◌, ℕ, ◌+◌, ◌≤◌, Bool, true, false, List, ◌∷◌, map, Option, None, Some, Result, Ok, Err, length, drop}
use Rattle.tib_lex.specs.declared.fault.FaultKind.{FaultKind}
use Rattle.tib_lex.specs.declared.fault.FileFault.{FileFault}
use Rattle.tib_lex.specs.declared.fault.ReadError.{ReadError}
use Rattle.tib_lex.specs.declared.fault.ReadError.TheVariants as errors
use Rattle.tib_lex.specs.Lines.{lines_of}
use Rattle.tib_tree.specs.Grows.{Adds, AddsAll}
use Rattle.tib_grammar_file.specs.Rule.{RuleLine}
use Rattle.tib_grammar_file.specs.Raw.{AreRawRules}
use Rattle.tib_grammar_file.specs.Value.{left_of}
use Rattle.tib_grammar_file.specs.Reading.{grammar_from, started, rules_from}
use Rattle.tib_lex.specs.declared.fault.LineError.{LineError}
use Rattle.tib_lex.specs.declared.fault.LineError.TheVariants as line_errors
use Rattle.tib_grammar_file.specs.declared.raw.RawRules.{RawRules}
use Rattle.tib_grammar_file.specs.declared.start.Begun.{Begun}

abbrev pub IsStartLine : List (List ℕ) → List (List ℕ) → Result Bool LineError →
    Result (Option (List ℕ)) FaultKind → Type 0
IsStartLine before names (Ok false) wanted = (wanted ≡ Ok None) × (names ≡ before)
IsStartLine before names (Ok true) wanted =
    (start : List ℕ) × (wanted ≡ Ok (Some start)) × Adds before start names
IsStartLine before names (Err (line_errors.Fault kind)) wanted = wanted ≡ Err kind
IsStartLine before names (Err line_errors.OutOfMemory) wanted = Unit {0}

-- the start was found, and the rules begin at a place
pub record Began (bytes : List ℕ) (before names : List (List ℕ)) (b : Begun) : Type 0 where
  pub start : List ℕ
  pub read : (scale : Scale) → grammar_from scale 1 (lines_of bytes)
      ≡ started start (rules_from scale b.number (lines_of (drop b.at bytes)))
  pub adds : Adds before start names
  pub place : b.at ≤ length bytes
  pub few : b.number ≤ b.at + 1

abbrev pub IsBegun : List ℕ → List (List ℕ) → List (List ℕ) → Result Begun ReadError → Type 0
IsBegun bytes before names (Ok b) = Began bytes before names b
IsBegun bytes before names (Err (errors.Fault fault)) =
    (scale : Scale) → grammar_from scale 1 (lines_of bytes) ≡ Err fault
IsBegun bytes before names (Err errors.OutOfMemory) = Unit {0}

-- the rules that were read, over the tables of names and texts
pub record IsRawGrammar (before names texts : List (List ℕ)) (raw : RawRules)
    (wanted : Result (List ℕ × List RuleLine) FileFault) : Type 0 where
  pub start : List ℕ
  pub lines : List RuleLine
  pub read : wanted ≡ Ok (start, lines)
  pub rules_are : AreRawRules names texts raw.rules.items raw.nodes.items lines
  pub added : AddsAll before (start ∷ map left_of lines) names

abbrev pub ReadsRaw : List (List ℕ) → List (List ℕ) → List (List ℕ) → Result RawRules ReadError →
    Result (List ℕ × List RuleLine) FileFault → Type 0
ReadsRaw before names texts (Ok raw) wanted = IsRawGrammar before names texts raw wanted
ReadsRaw before names texts (Err (errors.Fault fault)) wanted = wanted ≡ Err fault
ReadsRaw before names texts (Err errors.OutOfMemory) wanted = Unit {0}
