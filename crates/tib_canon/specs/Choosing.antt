-- For each kind of value that was seen, the position of the cheapest of that kind.
use Rattle.std.specs.Prelude.{◌≡◌, ℕ, ◌<◌, ◌≤◌, List, length}
use Rattle.std.proofs.Common.{get_or}

-- for values that are at positions and have costs: value m is of kind i, and the chosen one of the
-- kind costs no more
pub record IsChosenOf {S : Type 0} (blank : S) (Are : S → ℕ → Type 0) (cost : ℕ → ℕ) (kinds : List S) (best : List ℕ) (m i : ℕ) : Type 0 where
  pub below : i < length best
  pub sides_are : Are (get_or kinds i blank) m
  pub costs : cost (get_or best i 0) ≤ cost m

-- for each of the distinct kinds of the first n values, the position of the cheapest of that kind
pub record AreChosen {S : Type 0} (blank : S) (Are : S → ℕ → Type 0) (cost : ℕ → ℕ) (n : ℕ) (kinds : List S) (best : List ℕ) : Type 0 where
  pub long : length kinds ≡ length best
  pub few : length best ≤ n
  pub distinct : (i j : ℕ) → i < length kinds → j < length kinds → get_or kinds i blank ≡ get_or kinds j blank → i ≡ j
  pub below : (i : ℕ) → i < length best → get_or best i 0 < n
  pub are : (i : ℕ) → i < length best → Are (get_or kinds i blank) (get_or best i 0)
  pub whole : (m : ℕ) → m < n → (i : ℕ) × IsChosenOf blank Are cost kinds best m i
