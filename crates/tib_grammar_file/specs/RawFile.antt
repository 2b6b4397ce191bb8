-- What was read from a file's rules.
use Rattle.std.specs.Prelude.{◌≡◌, ℕ, List, map, Result, Ok, Err}
use Rattle.tib_tree.specs.Grows.{AddsAll}
use Rattle.tib_lex.specs.declared.fault.FileFault.{FileFault}
use Rattle.tib_lex.specs.declared.fault.ReadError.{ReadError}
use Rattle.tib_lex.specs.declared.fault.ReadError.TheVariants as errors
use Rattle.tib_grammar_file.specs.Rule.{RuleLine}
use Rattle.tib_grammar_file.specs.Raw.{AreRawRules}
use Rattle.tib_grammar_file.specs.Value.{left_of}
use Rattle.tib_grammar_file.specs.declared.raw.RawRules.{RawRules}

abbrev pub IsRawFile : List (List ℕ) → List (List ℕ) → List (List ℕ) → Result RawRules ReadError →
    Result (List RuleLine) FileFault → Type 0
IsRawFile before names texts (Ok raw) wanted =
    (lines : List RuleLine) × (wanted ≡ Ok lines)
    × AreRawRules names texts raw.rules.items raw.nodes.items lines
    × AddsAll before (map left_of lines) names
IsRawFile before names texts (Err (errors.Fault fault)) wanted = wanted ≡ Err fault
IsRawFile before names texts (Err errors.OutOfMemory) wanted = Unit {0}
