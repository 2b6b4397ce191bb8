-- What is read from a file: its start and its rules, or its first fault.
use Rattle.tib_cost.specs.declared.Scale.{Scale}
use Rattle.std.specs.Prelude.{ℕ, List, [], ◌∷◌, Option, None, Some, Result, Ok, Err, if◌then◌else◌, suc}
use Rattle.tib_lex.specs.Grammar.{Word, name}
use Rattle.tib_lex.specs.Line.{words_of}
use Rattle.tib_lex.specs.Lines.{lines_of, each_line}
use Rattle.tib_lex.specs.declared.fault.FaultKind.{FaultKind}
use Rattle.tib_lex.specs.declared.fault.FaultKind.TheVariants as kinds
use Rattle.tib_lex.specs.declared.fault.FileFault.{FileFault}
use Rattle.tib_grammar_file.specs.Rule.{has_dot, RuleLine, rule_line}

abbrev pub fault_at : ℕ → FaultKind → FileFault
fault_at n kind = record { line = n; kind = kind }

-- the rules of the lines from a number on
abbrev pub rules_from : Scale → ℕ → List (List ℕ) → Result (List RuleLine) FileFault
rules_from scale n lines = each_line (rule_line scale) n lines

abbrev pub start_of : List Word → Option (List ℕ)
start_of (name text ∷ []) = Some text
start_of words = None

abbrev pub plain_start : Option (List ℕ) → Result (Option (List ℕ)) FaultKind
plain_start None = Err kinds.BadRule
plain_start (Some text) = if has_dot text then Err kinds.BadRule else Ok (Some text)

abbrev pub start_in : Option (List Word) → Result (Option (List ℕ)) FaultKind
start_in None = Err kinds.BadToken
start_in (Some []) = Ok None
start_in (Some (word ∷ words)) = plain_start (start_of (word ∷ words))

-- no tokens, or the start's name, or the first fault of the line
unfoldable pub start_line : List ℕ → Result (Option (List ℕ)) FaultKind
start_line line = start_in (words_of line)

-- a start before rules that were read
abbrev pub started : {R : Type 0} → List ℕ → Result (List R) FileFault →
    Result (List ℕ × List R) FileFault
started start (Ok rules) = Ok (start, rules)
started start (Err fault) = Err fault

-- what is read from a file, by what is read from its first line in the start's place
abbrev pub with_start : {R : Type 0} → ℕ → Result (Option (List ℕ)) FaultKind → Result (List R) FileFault →
    Result (List ℕ × List R) FileFault → Result (List ℕ × List R) FileFault
with_start n (Err kind) rules more = Err (fault_at n kind)
with_start n (Ok None) rules more = more
with_start n (Ok (Some start)) rules more = started start rules

abbrev pub grammar_from : Scale → ℕ → List (List ℕ) → Result (List ℕ × List RuleLine) FileFault
grammar_from scale n [] = Err (fault_at 1 kinds.NoStart)
grammar_from scale n (line ∷ lines) =
    with_start n (start_line line) (rules_from scale (suc n) lines)
    (grammar_from scale (suc n) lines)

-- the start and the rules of a file, or its first fault
unfoldable pub grammar_of : Scale → List ℕ → Result (List ℕ × List RuleLine) FileFault
grammar_of scale bytes = grammar_from scale 1 (lines_of bytes)
