-- What is added to an agenda and taken from it.
use Rattle.std.specs.Prelude.{◌≡◌, ℕ, ◌+◌, ◌≤◌, ◌⊎◌, List, length, Contains, Option, None, Some}

-- the agenda has one more entry
pub record AddsEntry (old : List (ℕ × ℕ)) (e : ℕ × ℕ) (new : List (ℕ × ℕ)) : Type 0 where
  pub new_one : Contains new e
  pub kept : (x : ℕ × ℕ) → Contains old x → Contains new x
  pub only : (x : ℕ × ℕ) → Contains new x → (x ≡ e) ⊎ Contains old x
  pub long : length new ≡ length old + 1

-- an entry of the least cost is taken
pub record TakesLeast (old : List (ℕ × ℕ)) (e : ℕ × ℕ) (new : List (ℕ × ℕ)) : Type 0 where
  pub held : Contains old e
  pub least : (x : ℕ × ℕ) → Contains old x → e.0 ≤ x.0
  pub kept : (x : ℕ × ℕ) → Contains old x → (x ≡ e) ⊎ Contains new x
  pub only : (x : ℕ × ℕ) → Contains new x → Contains old x
  pub long : length new + 1 ≡ length old

-- 1 for a state without a cost, and 0 for one that has its cost
abbrev pub unset : Option ℕ → ℕ
unset None = 1
unset (Some d) = 0
