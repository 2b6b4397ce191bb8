-- What contracts see of the claim counter and its seats.
use Rattle.std.specs.Prelude.{◌≡◌, ℕ, zero, suc, ◌+◌, ◌^◌, ◌≤◌, ◌<◌, nat_eq, if◌then◌else◌, List}
use Rattle.atomic_table.specs.Seated.{TableId}
use Rattle.tib_lex.specs.Lists.{occurrences}
use Rattle.tib_workers.specs.declared.claim.Claim.{Claim}

-- which counter it is, and how many items it has
pub record Counter : Type 0 where
  pub table : TableId
  pub count : ℕ

-- the counter of a seat, its shares, how often it drew None, and the numbers that it drew
pub record Claimed : Type 0 where
  pub counter : Counter
  pub shares : ℕ
  pub nones : ℕ
  pub drawn : List ℕ

-- a seat at a table, by what it knows
abbrev pub claimed : TableId → Claim → Claimed
claimed z v = record { counter = record { table = z; count = v.count }; shares = v.shares; nones = v.nones; drawn = v.drawn }

-- 1 where two numbers are equal, and else 0
abbrev pub one_if : ℕ → ℕ → ℕ
one_if x y = if nat_eq x y then 1 else 0

-- 1 where x is below n, and else 0
abbrev pub once_below : ℕ → ℕ → ℕ
once_below x zero = 0
once_below x (suc n) = one_if x n + once_below x n

-- no number was drawn twice, and a seat with all shares that drew None has drawn each number below
-- the count
abbrev pub DrawnOnce : ℕ → ℕ → ℕ → List ℕ → Type 0
DrawnOnce count shares nones drawn = ((x : ℕ) → occurrences x drawn ≤ 1) × (shares ≡ 2 ^ 31 → 0 < nones → (x : ℕ) → occurrences x drawn ≡ once_below x count)

-- the same for a seat
abbrev pub HasDrawnOnce : Claimed → Type 0
HasDrawnOnce v = DrawnOnce v.counter.count v.shares v.nones v.drawn
