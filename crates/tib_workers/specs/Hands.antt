-- What a worker holds.
use Rattle.std.specs.Prelude.{◌≡◌, ℕ, ◌+◌, ◌*◌, ◌^◌, ◌<◌, ◌≤◌, Bool, true, List}
use Rattle.std.specs.List.{All}
use Rattle.tib_lex.specs.Limits.{most_parts}
use Rattle.tib_table.specs.Known.{TableOf, Knowledge}
use Rattle.tib_workers.specs.Claims.{Counter, Claimed}
use Rattle.tib_workers.specs.Rows.{IsRowOf, parts_in}
use Rattle.tib_workers.specs.declared.hand.Hand.{Hand}
use Rattle.tib_workers.specs.declared.row.Row.{Row}

-- The seats are at their places, each row is right by what they know, and the parts of the rows are
-- what is gone of the share.
pub record IsHand {D K T : Type 0} (gives : D → ℕ → List K → T → ℕ → Type 0) (count_of : D → ℕ) (is_ready : D → Type 0) (d : D) (table : TableOf D) (counter : Counter) (share : ℕ)
    (rows : List (Row T)) (left : ℕ) (going : Bool) (seat : Claimed) (seats : Knowledge D K) : Type 0 where
  pub at_counter : seat.counter ≡ counter
  pub at_table : seats.table ≡ table
  pub about : table.about ≡ d
  pub ready : is_ready d
  pub counted : counter.count ≡ count_of d
  pub made : All (IsRowOf gives count_of d seats.known) rows
  pub parts : parts_in rows + left ≡ share
  pub still : going ≡ true → seat.nones ≡ 0

-- the same for a hand
abbrev pub Holds : {X T K D : Type 0} → (D → ℕ → List K → T → ℕ → Type 0) → (D → ℕ) → (D → Type 0) → D → TableOf D → Counter → Hand X T K D → Type 0
Holds gives count_of is_ready d table counter hand =
    IsHand gives count_of is_ready d table counter hand.share hand.rows.items hand.left hand.going hand.seat hand.seats

-- this number of others may be split off, and all shares add up to at most the greatest limit
pub record MaySplit (others shares share count : ℕ) (going : Bool) : Type 0 where
  pub still : going ≡ true
  pub enough : others < shares
  pub small : share * (others + 1) ≤ most_parts
  pub few : count < 2 ^ 32
