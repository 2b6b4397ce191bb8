-- Places within a list of ends that goes on.
use Rattle.std.specs.Prelude.{◌≡◌, ℕ, ◌+◌, ◌<◌, ◌≤◌, List, ◌++◌, length, refl}
use Rattle.std.proofs.Common.{zero, suc, arith}
use Rattle.tib_lex.specs.Lists.{Each}
use Rattle.tib_lex.proofs.Places.{index_append}
use Rattle.tib_expand.specs.declared.place.Place.{Place}
use Rattle.tib_expand.specs.declared.place.Place.TheVariants.{Known, End}
use Rattle.tib_expand.specs.EdgeLists.{IsWithin, key_at}
use Rattle.tib_key_edges.specs.Ends.{ends_from}

-- a place stays within where more ends are there
pub within_wider : (n m l : ℕ) → m ≤ l → (p : Place) → IsWithin n m p → IsWithin n l p
within_wider n m l h (Known p) k = k
within_wider n m l h (End i) k = omega arith

-- and what is at it stays
pub place_stays : {K : Type 0} (d : K) (order xs ys : List K) (p : Place) → IsWithin (length order) (length xs) p → key_at d order (xs ++ ys) p ≡ key_at d order xs p
place_stays d order xs ys (Known p) h = refl
place_stays d order xs ys (End i) h = index_append xs ys i d h

-- this many ends from a number on are within
pub ends_within : (n m i k : ℕ) → i + k ≤ m → Each (IsWithin n m) (ends_from i k)
ends_within n m i zero h = tt
ends_within n m i (suc k) h = (omega arith, ends_within n m (suc i) k (omega arith))

-- and where they are, so is their last
pub ends_fit : (known m i k : ℕ) → Each (IsWithin known m) (ends_from i k) → 0 < k → i + k ≤ m
ends_fit known m i zero h p = absurd (omega arith)
ends_fit known m i (suc zero) h p = omega (arith, h.0)
ends_fit known m i (suc (suc k)) h p = omega (arith, ends_fit known m (suc i) (suc k) h.1 (omega arith))
