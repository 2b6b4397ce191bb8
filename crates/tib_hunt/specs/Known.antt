-- The ends of an item, some of which the order has.
use Rattle.std.specs.Prelude.{◌≡◌, ℕ, ◌<◌, List, [], ◌∷◌, Option, Some, None, length, map, slice_get, slice_index, slice_index_or}
use Rattle.std.specs.Global.{Vec}
use Rattle.std.proofs.Common.{◌∙◌, inl, inr, subst, sym}
use Rattle.tib_lex.specs.Lists.{Has, Each}
use Rattle.tib_table.specs.Known.{Names}
use Rattle.tib_table.specs.declared.number.Number.{Number}
use Rattle.tib_workers.specs.Rows.{NameOn}
use Rattle.tib_hunt.specs.declared.lookups.EndAt.{EndAt}
use Rattle.tib_hunt.specs.declared.lookups.EndAt.TheVariants.{Position, Numbered}

module _ {K : Type 0} (order : List K) where
  -- each end is at its position of the order, or is the next of those that the order lacks
  abbrev pub AreSplit : List K → List EndAt → List K → Type 0
  AreSplit [] [] lacked = lacked ≡ []
  AreSplit [] (at ∷ ats) lacked = ⊥
  AreSplit (k ∷ ks) [] lacked = ⊥
  AreSplit (k ∷ ks) (Position n ∷ ats) lacked = (slice_get order n ≡ Some k) × AreSplit ks ats lacked
  AreSplit (k ∷ ks) (Numbered ∷ ats) [] = ⊥
  AreSplit (k ∷ ks) (Numbered ∷ ats) (l ∷ lacked) = (k ≡ l) × (Has order k → ⊥) × AreSplit ks ats lacked

  -- those that the order lacks are among all ends
  pub split_has : (ks : List K) (ats : List EndAt) (lacked : List K) → AreSplit ks ats lacked → (x : K) → Has lacked x → Has ks x
  split_has [] [] lacked s x h = absurd (subst (λ (l : List K). Has l x) s h)
  split_has [] (at ∷ ats) lacked s x h = absurd s
  split_has (k ∷ ks) [] lacked s x h = absurd s
  split_has (k ∷ ks) (Position n ∷ ats) lacked s x h = inr (split_has ks ats lacked s.1 x h)
  split_has (k ∷ ks) (Numbered ∷ ats) [] s x h = absurd s
  split_has (k ∷ ks) (Numbered ∷ ats) (l ∷ lacked) s x (inl e) = inl (s.0 ∙ e)
  split_has (k ∷ ks) (Numbered ∷ ats) (l ∷ lacked) s x (inr h) = inr (split_has ks ats lacked s.2 x h)

  -- none of them is in the order
  pub split_lacks : (ks : List K) (ats : List EndAt) (lacked : List K) → AreSplit ks ats lacked → (x : K) → Has lacked x → Has order x → ⊥
  split_lacks [] [] lacked s x h = absurd (subst (λ (l : List K). Has l x) s h)
  split_lacks [] (at ∷ ats) lacked s x h = absurd s
  split_lacks (k ∷ ks) [] lacked s x h = absurd s
  split_lacks (k ∷ ks) (Position n ∷ ats) lacked s x h = split_lacks ks ats lacked s.1 x h
  split_lacks (k ∷ ks) (Numbered ∷ ats) [] s x h = absurd s
  split_lacks (k ∷ ks) (Numbered ∷ ats) (l ∷ lacked) s x (inl e) = λ m. s.1 (subst (Has order) (sym (s.0 ∙ e)) m)
  split_lacks (k ∷ ks) (Numbered ∷ ats) (l ∷ lacked) s x (inr h) = split_lacks ks ats lacked s.2 x h

  -- each end is at its position of the order, or has the next of the numbers, which names it on the
  -- shelves
  abbrev pub NameAt : List (List K) → List K → List EndAt → List Number → Type 0
  NameAt shelves [] [] numbers = Unit {0}
  NameAt shelves [] (at ∷ ats) numbers = ⊥
  NameAt shelves (k ∷ ks) [] numbers = ⊥
  NameAt shelves (k ∷ ks) (Position n ∷ ats) numbers = (slice_get order n ≡ Some k) × NameAt shelves ks ats numbers
  NameAt shelves (k ∷ ks) (Numbered ∷ ats) [] = ⊥
  NameAt shelves (k ∷ ks) (Numbered ∷ ats) (number ∷ numbers) = Names shelves number.shelf number.place k × NameAt shelves ks ats numbers

  -- the same where all ends may have numbers
  abbrev pub NameEnds : List (List K) → List K → Option (Vec EndAt) → List Number → Type 0
  NameEnds shelves ends None numbers = NameOn shelves ends numbers
  NameEnds shelves ends (Some at) numbers = NameAt shelves ends at.items numbers

-- the position of a number, where each shelf has its list of positions
abbrev pub position_on : List (List ℕ) → Number → ℕ
position_on positions n = slice_index (slice_index_or positions n.shelf []) n.place

-- the number has a position there
abbrev pub IsOn : List (List ℕ) → Number → Type 0
IsOn positions n = n.place < length (slice_index_or positions n.shelf [])

-- the positions of ends, some of which have numbers
abbrev pub positions_at : List (List ℕ) → List EndAt → List Number → List ℕ
positions_at positions [] numbers = []
positions_at positions (Position n ∷ ats) numbers = n ∷ positions_at positions ats numbers
positions_at positions (Numbered ∷ ats) [] = []
positions_at positions (Numbered ∷ ats) (number ∷ numbers) = position_on positions number ∷ positions_at positions ats numbers

-- each of these ends that needs a number has one, which has a position
abbrev pub HavePositionsAt : List (List ℕ) → List EndAt → List Number → Type 0
HavePositionsAt positions [] numbers = Unit {0}
HavePositionsAt positions (Position n ∷ ats) numbers = HavePositionsAt positions ats numbers
HavePositionsAt positions (Numbered ∷ ats) [] = ⊥
HavePositionsAt positions (Numbered ∷ ats) (number ∷ numbers) = IsOn positions number × HavePositionsAt positions ats numbers

-- the same where all ends may have numbers
abbrev pub end_positions : List (List ℕ) → Option (Vec EndAt) → List Number → List ℕ
end_positions positions None numbers = map (position_on positions) numbers
end_positions positions (Some at) numbers = positions_at positions at.items numbers

abbrev pub AreOn : List (List ℕ) → Option (Vec EndAt) → List Number → Type 0
AreOn positions None numbers = Each (IsOn positions) numbers
AreOn positions (Some at) numbers = HavePositionsAt positions at.items numbers
