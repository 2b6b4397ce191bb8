-- Numbers of the states that are kept.
use Rattle.std.specs.Prelude.{◌≡◌, ℕ, ◌<◌, List, length}
use Rattle.std.proofs.Common.{get_or}

-- each state of the list has its place as its number
abbrev pub AreNumbersOf : List ℕ → List ℕ → Type 0
AreNumbersOf states numbers = (i : ℕ) → i < length states → get_or numbers (get_or states i 0) 0 ≡ i

-- each state comes before those after it
abbrev pub AscendsByPlace : List ℕ → Type 0
AscendsByPlace states =
    (i j : ℕ) → i < j → j < length states → get_or states i 0 < get_or states j 0
