-- The line at a place of a file.
use Rattle.std.specs.Prelude.{◌≡◌, ℕ, ◌+◌, ◌<◌, ◌≤◌, ◌⊎◌, List, ◌∷◌, length, drop, slice_range}
use Rattle.std.specs.List.{prefix_len}
use Rattle.tib_lex.specs.Lines.{not_feed, lines_of}
use Rattle.tib_lex.specs.declared.lines.Line.{Line}

-- A line that begins at a place ends before the next line feed, and the next one begins after it;
-- the last may end the file.
pub record IsNextLine (bytes : List ℕ) (number at : ℕ) (line : Line) : Type 0 where
  pub numbered : line.number ≡ number
  pub starts : line.start ≡ at
  pub ends : line.end ≡ at + prefix_len not_feed (drop at bytes)
  pub order : line.start ≤ line.end
  pub within : line.end ≤ length bytes
  pub behind : ((line.end < length bytes) × (line.next ≡ line.end + 1))
      ⊎ ((line.end ≡ length bytes) × (line.next ≡ line.end))
  pub goes_on : at < line.next
  pub ahead : line.next ≤ length bytes
  pub lines : lines_of (drop at bytes) ≡
      slice_range bytes line.start line.end ∷ lines_of (drop line.next bytes)
