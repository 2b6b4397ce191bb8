-- What was found in a line.
use Rattle.std.specs.Prelude.{◌≡◌, ◌+◌, ◌≤◌, ℕ, Bool, true, false, List, length, map, drop, slice_range, Option, Some, None, Result, Ok, Err}
use Rattle.std.specs.List.{All}
use Rattle.tib_lex.specs.Line.{words_at, Lies}
use Rattle.tib_lex.specs.Lines.{lines_of}
use Rattle.tib_lex.specs.NextLine.{IsNextLine}
use Rattle.tib_lex.specs.declared.lines.Line.{Line}
use Rattle.tib_lex.specs.declared.token.Token.{Token}
use Rattle.tib_lex.specs.declared.fault.FileFault.{FileFault}
use Rattle.tib_lex.specs.declared.fault.LineError.{LineError}
use Rattle.tib_lex.specs.declared.fault.LineError.TheVariants as line_errors
use Rattle.tib_lex.specs.declared.fault.ReadError.{ReadError}
use Rattle.tib_lex.specs.declared.fault.ReadError.TheVariants as errors
use Rattle.tib_tree.specs.Trees.{most_nodes}
use Rattle.tib_strings.specs.Listed.{item_of}
use Rattle.tib_strings.specs.StringReading.{string_line, more_line, rest_from, unless, string_from}

-- tokens of a line are the words of a string
pub record AreWords (line : List ℕ) (tokens : List Token) : Type 0 where
  pub read : string_line line ≡ Ok (Some (map item_of (words_at line tokens)))
  pub lie : All (Lies (length line)) tokens
  pub few : length tokens ≤ length line
  pub small : length tokens ≤ most_nodes

-- the tokens are those words, or the line has none, or its fault
abbrev pub IsListed : List ℕ → List Token → Result Bool LineError → Type 0
IsListed line tokens (Ok true) = AreWords line tokens
IsListed line tokens (Ok false) = string_line line ≡ Ok None
IsListed line tokens (Err (line_errors.Fault kind)) = string_line line ≡ Err kind
IsListed line tokens (Err line_errors.OutOfMemory) = Unit {0}

-- a line has no tokens, or this is its fault
abbrev pub IsSkipped : List ℕ → Result (Unit {0}) LineError → Type 0
IsSkipped line (Ok done) = more_line line ≡ None
IsSkipped line (Err (line_errors.Fault kind)) = more_line line ≡ Some kind
IsSkipped line (Err line_errors.OutOfMemory) = Unit {0}

-- some lines have no tokens, or this is their first fault
abbrev pub IsRest : Option FileFault → Result (Unit {0}) ReadError → Type 0
IsRest wanted (Ok done) = wanted ≡ None
IsRest wanted (Err (errors.Fault fault)) = wanted ≡ Some fault
IsRest wanted (Err errors.OutOfMemory) = Unit {0}

-- the line of a string was found, and what its file gives rests on the lines after it
pub record FoundString (bytes : List ℕ) (tokens : List Token) (line : Line) : Type 0 where
  pub at : ℕ
  pub next : IsNextLine bytes line.number at line
  pub words : AreWords (slice_range bytes line.start line.end) tokens
  pub read : string_from 1 (lines_of bytes) ≡ unless (rest_from (line.number + 1) (lines_of (drop line.next bytes))) (map item_of (words_at (slice_range bytes line.start line.end) tokens))
  pub few : line.number ≤ line.next

abbrev pub IsStringFound : List ℕ → List Token → Result Line ReadError → Type 0
IsStringFound bytes tokens (Ok line) = FoundString bytes tokens line
IsStringFound bytes tokens (Err (errors.Fault fault)) = string_from 1 (lines_of bytes) ≡ Err fault
IsStringFound bytes tokens (Err errors.OutOfMemory) = Unit {0}

-- after a fault a table is as it was
abbrev pub KeepsTable : List (List ℕ) → List (List ℕ) → ReadError → Type 0
KeepsTable old now (errors.Fault fault) = now ≡ old
KeepsTable old now errors.OutOfMemory = Unit {0}
