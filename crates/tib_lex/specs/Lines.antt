-- The lines of a file, and what is read from them one after another.
use Rattle.std.specs.Prelude.{◌≡◌, ◌<◌, ◌⊎◌, ℕ, Bool, true, length, not, ◌==◌, List, [], ◌∷◌, ◌++◌, Option, Some, None, Result, Ok, Err, if◌then◌else◌, suc}
use Rattle.std.specs.List.{list_all}
use Rattle.tib_lex.specs.declared.fault.FaultKind.{FaultKind}
use Rattle.tib_lex.specs.declared.fault.FileFault.{FileFault}

abbrev pub not_feed : ℕ → Bool
not_feed b = not (b == 10)

-- no byte is a line feed
abbrev pub HasNoFeed : List ℕ → Type 0
HasNoFeed line = list_all not_feed line ≡ true

-- a last line without a line feed has a byte
pub record EndsFile (line : List ℕ) (lines : List (List ℕ)) (bytes : List ℕ) : Type 0 where
  pub last : lines ≡ []
  pub is : bytes ≡ line
  pub some : 0 < length line

-- The bytes of a file have these lines: each ends before a line feed, and the last one may end with
-- the file.
abbrev pub HasLines : List (List ℕ) → List ℕ → Type 0
HasLines [] bytes = bytes ≡ []
HasLines (line ∷ lines) bytes =
    HasNoFeed line × (EndsFile line lines bytes ⊎ ((rest : List ℕ) × (bytes ≡ line ++ (10 ∷ rest)) × HasLines lines rest))

abbrev pub push_byte : ℕ → List (List ℕ) → List (List ℕ)
push_byte b [] = (b ∷ []) ∷ []
push_byte b (line ∷ lines) = (b ∷ line) ∷ lines

-- the lines of a file
abbrev pub lines_of : List ℕ → List (List ℕ)
lines_of [] = []
lines_of (b ∷ rest) = if b == 10 then [] ∷ lines_of rest else push_byte b (lines_of rest)

-- values in front of those that are read
abbrev pub front : {X F : Type 0} → List X → Result (List X) F → Result (List X) F
front done (Ok more) = Ok (done ++ more)
front done (Err fault) = Err fault

-- what the line with a number gives, before what is read after it
abbrev pub with_line : {X : Type 0} → ℕ → Result (Option X) FaultKind → Result (List X) FileFault →
    Result (List X) FileFault
with_line n (Err kind) more = Err (record { line = n; kind = kind })
with_line n (Ok None) more = more
with_line n (Ok (Some x)) more = front (x ∷ []) more

-- each line by one function, up to the first fault
abbrev pub each_line : {X : Type 0} → (List ℕ → Result (Option X) FaultKind) → ℕ → List (List ℕ) →
    Result (List X) FileFault
each_line read n [] = Ok []
each_line read n (line ∷ lines) = with_line n (read line) (each_line read (suc n) lines)
