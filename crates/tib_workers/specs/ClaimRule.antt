-- The rule of the claim counter, whose one word counts the draws, and what a seat learns from each
-- of its steps.
use Rattle.std.specs.Prelude.{◌≡◌, ℕ, ◌+◌, ◌^◌, ◌≤◌, ◌<◌, List, [], ◌∷◌, ◌++◌, length, slice_index, min}
use mathlib.Core.Option.{some}
use lib.ListN.{get_elem?}
use Rattle.atomic_table.specs.Table.{State, Me, Step}
use Rattle.tib_workers.specs.declared.claim.Claim.{Claim}
use Rattle.tib_workers.specs.Claims.{once_below, DrawnOnce}
use Rattle.tib_lex.specs.Lists.{occurrences, total}

-- what a seat knows
abbrev pub claim : ℕ → ℕ → ℕ → List ℕ → Claim
claim count shares nones drawn = record { count = count; shares = shares; nones = nones; drawn = drawn }

-- it knows the number of items, drew None at most as often as it has shares, and has drawn nothing
-- if it has no share
pub record IsFair (count : ℕ) (v : Claim) : Type 0 where
  pub same : 0 < v.shares → v.count ≡ count
  pub owed : v.nones ≤ v.shares
  pub idle : v.shares ≡ 0 → v.drawn ≡ []

-- each number below the word, and below the count, was drawn once; the word exceeds the count only
-- by the draws of None
pub record EachIsDrawnOnce (count : ℕ) (s : State ℕ Claim) : Type 0 where
  pub small : count < 2 ^ 32
  pub wide : length s.words ≡ 1
  pub once : (x : ℕ) → total (λ v. occurrences x v.drawn) s.views ≡ once_below x (min (slice_index s.words 0) count)
  pub tally : slice_index s.words 0 ≡ min (slice_index s.words 0) count + total (λ v. v.nones) s.views
  pub shared : total (λ v. v.shares) s.views ≡ 2 ^ 31
  pub fair : (j : ℕ) (v : Claim) → get_elem? s.views j ≡ some v → IsFair count v

-- what a step shows of what a seat has drawn
abbrev pub IsTold : Claim → Type 0
IsTold v = DrawnOnce v.count v.shares v.nones v.drawn

-- a seat drew the number that it found, or drew None where that is not below the count
abbrev pub Drew : Step ℕ → Me ℕ Claim → ℕ → Me ℕ Claim → Type 0
Drew s m found n =
    (n.1 ≡ m.1)
    × (found < m.0.count → n.0 ≡ claim m.0.count m.0.shares m.0.nones (m.0.drawn ++ found ∷ []))
    × (m.0.count ≤ found → n.0 ≡ claim m.0.count m.0.shares (m.0.nones + 1) m.0.drawn)
    × IsTold n.0

-- a seat changed nothing
abbrev pub Looked : Step ℕ → Me ℕ Claim → ℕ → Me ℕ Claim → Type 0
Looked s m found n = (n ≡ m) × IsTold n.0
