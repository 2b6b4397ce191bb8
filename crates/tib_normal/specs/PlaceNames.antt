-- Names of places, and lengths that no name has.
use Rattle.std.specs.Prelude.{◌≡◌, ℕ, ◌+◌, ◌-◌, ◌/◌, ◌%◌, ◌<◌, ◌≤◌, List, [], ◌∷◌, ◌++◌, length, get_or, Bool, true, false, count_by}
use Rattle.std.proofs.Common.{zero, suc}
use Rattle.tib_lex.specs.Lists.{Has}

-- the last n digits of a number, before some bytes
abbrev pub digits : ℕ → ℕ → List ℕ → List ℕ
digits zero number behind = behind
digits (suc n) number behind = digits n (number / 10) ((48 + number % 10) ∷ behind)

-- a `p` and digits, which have this length
abbrev pub name_of_place : ℕ → ℕ → List ℕ
name_of_place n number = 112 ∷ digits (n - 1) number []

-- the names of the first places
abbrev pub names_of_places : ℕ → ℕ → List (List ℕ)
names_of_places n zero = []
names_of_places n (suc places) = names_of_places n places ++ name_of_place n places ∷ []

-- no name has this length
abbrev pub IsFree : List (List ℕ) → ℕ → Type 0
IsFree names n = (text : List ℕ) → Has names text → length text ≡ n → ⊥

-- which of some lengths from nine on names have: each name has one at most
pub record AreTaken (names : List (List ℕ)) (room : ℕ) (taken : List Bool) : Type 0 where
  pub long : length taken ≡ room
  pub few : count_by (λ b. b) taken ≤ length names
  pub held : (text : List ℕ) (n : ℕ) → Has names text → length text ≡ 9 + n → n < room →
      get_or taken n false ≡ true
