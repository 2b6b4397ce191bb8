-- What contracts see of a round, and what each of its steps returns.
use Rattle.std.specs.Prelude.{◌≡◌, ℕ, ◌≤◌, List, length, map}
use Rattle.std.specs.List.{All}
use Rattle.tib_table.specs.Kept.{Kept, keys_of}
use Rattle.tib_table.specs.Known.{Names}
use Rattle.tib_table.specs.declared.number.Number.{Number}
use Rattle.tib_hunt.specs.declared.event.Event.{Event}
use Rattle.tib_hunt.specs.declared.event.Event.TheVariants.{Draw, Number as NumberKey, File}
use Rattle.tib_hunt.specs.declared.event.Answer.{Answer}
use Rattle.tib_hunt.specs.declared.event.Answer.TheVariants.{Drawn, Numbered, Filed}
use Rattle.tib_hunt.specs.RoundModel.{Core, next_item}

-- what the round's problem is about, and the state of its core
pub record RoundState (D K : Type 0) : Type 0 where
  pub about : D
  pub core : Core K

module _ {D K : Type 0} where
  abbrev pub round_state : D → ℕ → List (Kept D K) → List ℕ → RoundState D K
  round_state about drawn shelves filed = record { about = about; core = record { drawn = drawn; shelves = map keys_of shelves; filed = filed } }

  -- sixteen shelves with the same data, and no more is drawn than there are items
  abbrev pub IsRound : D → ℕ → ℕ → List (Kept D K) → Type 0
  IsRound about count drawn shelves = (length shelves ≡ 16) × All (λ k. k.about ≡ about) shelves × (drawn ≤ count)

-- the answer is a number on the key's own shelf, which names the key there
abbrev pub NumbersKey : {K : Type 0} → (K → ℕ) → Core K → K → Answer → Type 0
NumbersKey shelf_of s k a = (n : Number) × (a ≡ Numbered n) × (n.shelf ≡ shelf_of k) × Names s.shelves n.shelf n.place k

-- what an event that leads from s to t returns
abbrev pub IsAnswer : {K : Type 0} → (K → ℕ) → ℕ → ℕ → Core K → Event K → Core K → Answer → Type 0
IsAnswer shelf_of first count s Draw t a = a ≡ Drawn (next_item first count s)
IsAnswer shelf_of first count s (NumberKey k) t a = NumbersKey shelf_of t k a
IsAnswer shelf_of first count s (File i) t a = a ≡ Filed
