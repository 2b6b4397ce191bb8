-- What is read of a tree-to-string transducer file: its start and its rules, or its first fault.
use Rattle.tib_cost.specs.declared.Scale.{Scale}
use Rattle.std.specs.Prelude.{ℕ, List, Result}
use Rattle.tib_lex.specs.Lines.{lines_of}
use Rattle.tib_lex.specs.declared.fault.FileFault.{FileFault}
use Rattle.tib_transducer_file.specs.Reading.{file_from}
use Rattle.tib_strings.specs.RuleText.{RuleLine, rule_line}

-- the start and the rules of the lines from a number on, in which each right side is a list
abbrev pub string_file_from : Scale → ℕ → List (List ℕ) → Result (List ℕ × List RuleLine) FileFault
string_file_from scale n lines = file_from (rule_line scale) n lines

-- the start and the rules of a file, or its first fault
unfoldable pub transducer_in : Scale → List ℕ → Result (List ℕ × List RuleLine) FileFault
transducer_in scale bytes = string_file_from scale 1 (lines_of bytes)
