-- What is read of a string file: its words, or its first fault.
use Rattle.std.specs.Prelude.{ℕ, nat_lt, List, [], ◌∷◌, length, suc, Option, Some, None, Result, Ok, Err, if◌then◌else◌}
use Rattle.tib_lex.specs.Grammar.{Word}
use Rattle.tib_lex.specs.Line.{words_of}
use Rattle.tib_lex.specs.Lines.{lines_of}
use Rattle.tib_lex.specs.declared.fault.FaultKind.{FaultKind}
use Rattle.tib_lex.specs.declared.fault.FaultKind.TheVariants as kinds
use Rattle.tib_lex.specs.declared.fault.FileFault.{FileFault}
use Rattle.tib_tree.specs.Trees.{most_nodes}
use Rattle.tib_tree.specs.Written.{Item}
use Rattle.tib_grammar_file.specs.Reading.{fault_at}
use Rattle.tib_strings.specs.Listed.{list_in}

-- the first line with tokens
abbrev pub small_list : Option (List Item) → Result (Option (List Item)) FaultKind
small_list None = Err kinds.BadString
small_list (Some items) = if nat_lt most_nodes (length items) then Err kinds.TooManyNodes else Ok (Some items)

abbrev pub string_in_words : Option (List Word) → Result (Option (List Item)) FaultKind
string_in_words None = Err kinds.BadToken
string_in_words (Some []) = Ok None
string_in_words (Some (token ∷ tokens)) = small_list (list_in (token ∷ tokens))

unfoldable pub string_line : List ℕ → Result (Option (List Item)) FaultKind
string_line line = string_in_words (words_of line)

-- the lines after it
abbrev pub more_in_words : Option (List Word) → Option FaultKind
more_in_words None = Some kinds.BadToken
more_in_words (Some []) = None
more_in_words (Some (token ∷ tokens)) = Some kinds.BadString

unfoldable pub more_line : List ℕ → Option FaultKind
more_line line = more_in_words (words_of line)

abbrev pub with_more : ℕ → Option FaultKind → Option FileFault → Option FileFault
with_more n None rest = rest
with_more n (Some kind) rest = Some (fault_at n kind)

-- their first fault
abbrev pub rest_from : ℕ → List (List ℕ) → Option FileFault
rest_from n [] = None
rest_from n (line ∷ lines) = with_more n (more_line line) (rest_from (suc n) lines)

abbrev pub unless : Option FileFault → List Item → Result (List Item) FileFault
unless None items = Ok items
unless (Some fault) items = Err fault

abbrev pub with_list : ℕ → Result (Option (List Item)) FaultKind → Option FileFault → Result (List Item) FileFault → Result (List Item) FileFault
with_list n (Err kind) rest more = Err (fault_at n kind)
with_list n (Ok None) rest more = more
with_list n (Ok (Some items)) rest more = unless rest items

abbrev pub string_from : ℕ → List (List ℕ) → Result (List Item) FileFault
string_from n [] = Err (fault_at 1 kinds.BadString)
string_from n (line ∷ lines) = with_list n (string_line line) (rest_from (suc n) lines) (string_from (suc n) lines)

-- the words of a file, or its first fault
unfoldable pub string_in : List ℕ → Result (List Item) FileFault
string_in bytes = string_from 1 (lines_of bytes)
