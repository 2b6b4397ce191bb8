-- The text of one tree, and what is wrong with bytes that are none.
use Rattle.std.specs.Prelude.{◌≡◌, ℕ, ◌≤◌, ◌⊎◌, List, [], ◌∷◌, length, Result, Ok, Err, suc}
use Rattle.tib_lex.specs.Grammar.{HasWords}
use Rattle.tib_lex.specs.Lines.{lines_of}
use Rattle.tib_lex.specs.Lists.{Each}
use Rattle.tib_lex.specs.declared.fault.FaultKind.TheVariants.{BadTree}
use Rattle.tib_lex.specs.declared.fault.FileFault.{FileFault}
use Rattle.tib_lex.specs.declared.fault.ReadError.{ReadError}
use Rattle.tib_lex.specs.declared.fault.ReadError.TheVariants as errors
use Rattle.tib_tree.specs.Trees.{Tree, most_nodes}
use Rattle.tib_tree.specs.Written.{Item}
use Rattle.tib_tree.specs.TreesText.{TreesText, IsSmall, HasNodes, IsGood, IsFirstFault}

-- the bytes are the text of this tree alone, and it is not too large
abbrev pub IsTheText : List (List ℕ) → List ℕ → Tree ℕ → Type 0
IsTheText labels bytes t = TreesText labels bytes (t ∷ []) × Each IsSmall (t ∷ [])

-- a line has no tokens
abbrev pub IsBlank : List ℕ → Type 0
IsBlank line = HasWords [] line

-- a line is a tree that is not too large
abbrev pub HasTree : List ℕ → Type 0
HasTree line = (nodes : List Item) × HasNodes line nodes × (length nodes ≤ most_nodes)

-- of lines that are numbered from n, the first with a tree is line m, and those before it are blank
abbrev pub IsFirstTree : ℕ → List (List ℕ) → ℕ → Type 0
IsFirstTree n [] m = ⊥
IsFirstTree n (line ∷ lines) m = (IsBlank line × IsFirstTree (suc n) lines m) ⊎ (HasTree line × (m ≡ n))

-- and the second is line m
abbrev pub IsSecondTree : ℕ → List (List ℕ) → ℕ → Type 0
IsSecondTree n [] m = ⊥
IsSecondTree n (line ∷ lines) m = (IsBlank line × IsSecondTree (suc n) lines m) ⊎ (HasTree line × IsFirstTree (suc n) lines m)

-- No line has a fault, but there is no tree, and line 1 is reported, or there are several, and the
-- line of the second is.
pub record IsMiscounted (bytes : List ℕ) (fault : FileFault) : Type 0 where
  pub good : Each IsGood (lines_of bytes)
  pub kind : fault.kind ≡ BadTree
  pub line : (Each IsBlank (lines_of bytes) × (fault.line ≡ 1)) ⊎ IsSecondTree 1 (lines_of bytes) fault.line

-- the fault of the bytes as the text of one tree: that of their first line with a fault, or else
-- that they have no tree or several
abbrev pub IsOneTreeFault : List ℕ → FileFault → Type 0
IsOneTreeFault bytes fault = IsFirstFault bytes fault ⊎ IsMiscounted bytes fault

-- A reader gives the one tree of the text, or else the fault.
abbrev pub ReadsOneTree : List (List ℕ) → List ℕ → Result (Tree ℕ) ReadError → Type 0
ReadsOneTree labels bytes (Ok t) = IsTheText labels bytes t
ReadsOneTree labels bytes (Err (errors.Fault fault)) = IsOneTreeFault bytes fault
ReadsOneTree labels bytes (Err errors.OutOfMemory) = Unit {0}
