-- A walk over child places, from the last on, by levels.
use Rattle.std.specs.Prelude.{◌≡◌, ℕ, ◌+◌, ◌-◌, ◌^◌, ◌<◌, ◌≤◌, List, [], ◌∷◌, ◌++◌, length, Option, None, Some}
use Rattle.std.proofs.Common.{zero, suc}
use Rattle.tib_grammar.specs.declared.Rule.{Rule}
use Rattle.tib_determinize.specs.declared.walk.Level.{Level}
use Rattle.tib_determinize.specs.Vectors.{VectorOf, vector_at}
use Rattle.tib_determinize.specs.Alive.{states_of, AreAscending, AreLeft}
use Rattle.tib_determinize.specs.declared.alive.Alive.{Alive}
use Rattle.std.proofs.Common.{get_or}
use Rattle.tib_lex.specs.Lists.{Has}
use Rattle.tib_determinize.specs.Tries.{span, under}

-- the lists that a level has still to try
abbrev pub tries_of : ℕ → ℕ → Level → List (List ℕ)
tries_of n j l = span (λ p. under n j l.place (p ∷ l.behind.items)) l.next (l.end - l.next)

-- those of some levels, of the last one first
abbrev pub pending : ℕ → ℕ → List Level → List (List ℕ)
pending n j [] = []
pending n j (l ∷ ls) = pending n j ls ++ tries_of n j l

-- those of the level below, if there is one
abbrev pub pending_below : ℕ → ℕ → Option Level → List (List ℕ)
pending_below n j None = []
pending_below n j (Some l) = tries_of n j l

-- the level after its next position
abbrev pub past : Level → Level
past l = record { place = l.place; behind = l.behind; alive = l.alive; wanted = l.wanted; next = l.next + 1; end = l.end }

-- the level at another next position
abbrev pub moved : Level → ℕ → Level
moved l m = record { place = l.place; behind = l.behind; alive = l.alive; wanted = l.wanted; next = m; end = l.end }

-- each position to come at which some rule that is alive has its state is wanted
pub record IsWanted (rules : List (Rule ℕ)) (order : List VectorOf) (l : Level) : Type 0 where
  pub each :
      (p r : ℕ) (a : Alive) → l.next ≤ p → p < l.end → Has l.alive.items a → Has {A = ℕ × ℕ} (vector_at order p) (get_or (states_of rules a.rule) l.place 0, r) → Has l.wanted.items p
  pub ascends : AreAscending l.wanted.items

abbrev pub level_list : Option Level → List Level
level_list None = []
level_list (Some l) = l ∷ []

-- the level of a place, with the positions after it and the rules that are alive there, where n is
-- last at the place j
pub record IsLevel (product : ℕ → ℕ → ℕ) (rules : List (Rule ℕ)) (order : List VectorOf) (f k n j : ℕ) (l : Level) : Type 0 where
  pub place : suc l.place + length l.behind.items ≡ k
  pub alive : AreLeft product rules order f k n j (suc l.place) l.behind.items l.alive.items
  pub last : l.place ≡ j → (n ≤ l.next) × (l.end ≤ suc n)
  pub up : l.end ≤ suc n
  pub wanted : IsWanted rules order l
  pub within : l.end ≤ length order
  pub fits : l.end ≤ 2 ^ 32

-- as many of a number
abbrev pub copies : ℕ → ℕ → ℕ
copies zero x = 0
copies (suc c) x = x + copies c x

-- a bound of the steps below a place, where at most this many positions are tried at each
abbrev pub steps_at : ℕ → ℕ → ℕ
steps_at many zero = 1
steps_at many (suc i) = suc (suc (copies many (steps_at many i)))

-- a bound of the steps of some levels
abbrev pub steps_of : ℕ → List Level → ℕ
steps_of many [] = 0
steps_of many (l ∷ ls) = suc (copies (l.end - l.next) (steps_at many l.place)) + steps_of many ls
