-- Short texts as numbers, and the labels that were seen lately.
use Rattle.std.specs.Prelude.{◌≡◌, ◌<◌, ◌+◌, ◌*◌, ℕ, List, [], ◌∷◌, Some, slice_get}
use Rattle.std.specs.List.{All}
use Rattle.tib_tree.specs.declared.recent.Recent.{Recent}

-- a text of bytes is a number to the base 256, its first byte the lowest digit, after a leading one
abbrev pub IsKey : List ℕ → ℕ → Type 0
IsKey [] key = key ≡ 1
IsKey (byte ∷ bytes) key = (rest : ℕ) × IsKey bytes rest × (byte < 256) × (key ≡ rest * 256 + byte)

-- the text with this key has this number in the table
abbrev pub IsSeen : List (List ℕ) → ℕ → ℕ → Type 0
IsSeen texts key label = (text : List ℕ) → IsKey text key → slice_get texts label ≡ Some text

-- each that was seen lately has its number
abbrev pub AreSeen : List (List ℕ) → Recent → Type 0
AreSeen texts recent = All (λ s. IsSeen texts s.key s.label) recent.seen.items
