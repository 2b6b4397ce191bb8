-- What is wrong with bytes that are no string's text, in the words of the format.
use Rattle.std.specs.Prelude.{◌≡◌, ◌<◌, ◌≤◌, ◌⊎◌, ℕ, List, [], ◌∷◌, length, suc, Option, Some, None, Result, Ok, Err}
use Rattle.tib_lex.specs.Grammar.{Word, HasWords, HasBadToken}
use Rattle.tib_lex.specs.Lines.{lines_of}
use Rattle.tib_lex.specs.declared.fault.FaultKind.{FaultKind}
use Rattle.tib_lex.specs.declared.fault.FaultKind.TheVariants.{BadToken, BadString, TooManyNodes}
use Rattle.tib_lex.specs.declared.fault.FileFault.{FileFault}
use Rattle.tib_lex.specs.declared.fault.ReadError.{ReadError}
use Rattle.tib_lex.specs.declared.fault.ReadError.TheVariants as errors
use Rattle.tib_tree.specs.Trees.{most_nodes}
use Rattle.tib_tree.specs.Written.{Item}
use Rattle.tib_strings.specs.Listed.{SpellsList}
use Rattle.tib_strings.specs.StringText.{IsBlank, HasList}

-- tokens that are no words of a string
pub record HasNoList (line : List ℕ) : Type 0 where
  pub token : Word
  pub tokens : List Word
  pub has : HasWords (token ∷ tokens) line
  pub none : (items : List Item) → SpellsList (token ∷ tokens) items → ⊥

-- too many words
pub record HasLongList (line : List ℕ) : Type 0 where
  pub items : List Item
  pub list : HasList line items
  pub many : most_nodes < length items

-- what is wrong with the first line with tokens
abbrev pub HasListFault : List ℕ → FaultKind → Type 0
HasListFault line BadToken = HasBadToken line
HasListFault line BadString = HasNoList line
HasListFault line TooManyNodes = HasLongList line
HasListFault line kind = ⊥

-- what such a line holds, if it has no fault: no tokens, or the words of a string within the limit;
-- or its fault
abbrev pub LineHolds : List ℕ → Result (Option (List Item)) FaultKind → Type 0
LineHolds line (Ok None) = IsBlank line
LineHolds line (Ok (Some items)) = HasList line items × (length items ≤ most_nodes)
LineHolds line (Err kind) = HasListFault line kind

abbrev pub HoldsList : List ℕ → Type 0
HoldsList line = (items : List Item) × LineHolds line (Ok (Some items))

-- what is wrong with a line after that of the string
abbrev pub HasMore : List ℕ → FaultKind → Type 0
HasMore line BadToken = HasBadToken line
HasMore line BadString = (token : Word) × (tokens : List Word) × HasWords (token ∷ tokens) line
HasMore line kind = ⊥

-- of lines after the string that are numbered from n, the first with a fault has this one
abbrev pub FaultBehind : ℕ → List (List ℕ) → FileFault → Type 0
FaultBehind n [] fault = ⊥
FaultBehind n (line ∷ lines) fault = ((fault.line ≡ n) × HasMore line fault.kind) ⊎ (IsBlank line × FaultBehind (suc n) lines fault)

-- Of lines that are numbered from n, of which none before has tokens, the first with a fault has
-- this one. Where none has tokens, it is a fault of line 1.
abbrev pub FaultFrom : ℕ → List (List ℕ) → FileFault → Type 0
FaultFrom n [] fault = (fault.line ≡ 1) × (fault.kind ≡ BadString)
FaultFrom n (line ∷ lines) fault =
    ((fault.line ≡ n) × HasListFault line fault.kind)
    ⊎ ((IsBlank line × FaultFrom (suc n) lines fault) ⊎ (HoldsList line × FaultBehind (suc n) lines fault))

-- the first fault of the file
abbrev pub IsFirstStringFault : List ℕ → FileFault → Type 0
IsFirstStringFault bytes fault = FaultFrom 1 (lines_of bytes) fault

-- a fault is the first of the file
abbrev pub IsStringCause : List ℕ → ReadError → Type 0
IsStringCause bytes (errors.Fault fault) = IsFirstStringFault bytes fault
IsStringCause bytes errors.OutOfMemory = Unit {0}
