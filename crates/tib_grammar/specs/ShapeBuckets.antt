-- Buckets of positions of rules, by the shapes of the rules: a state, a label and a rank.
use Rattle.std.specs.Prelude.{ℕ, List, [], Option, None, Some, map, ◌&&◌, nat_eq, Bool, ◌≡◌, ◌<◌, length, ◌∷◌, ◌++◌, if◌then◌else◌}
use Rattle.std.specs.Global.{Vec}
use Rattle.std.specs.HashMap.{HashMap, get}
use Rattle.std.proofs.Common.{get_or}

-- the bucket of a number, empty where there is none
abbrev pub bucket_at : List (List ℕ) → Option ℕ → List ℕ
bucket_at buckets None = []
bucket_at buckets (Some i) = get_or buckets i []

-- the buckets as lists
abbrev pub lists_of : List (Vec ℕ) → List (List ℕ)
lists_of buckets = map (λ b. b.items) buckets

-- whether two shapes are the same
abbrev pub same_shape : ℕ × ℕ × ℕ → ℕ × ℕ × ℕ → Bool
same_shape s t = (nat_eq s.0 t.0 && nat_eq s.1 t.1) && nat_eq s.2 t.2

-- what an index holds for a shape
abbrev pub held : {S : Type 0} → HashMap (ℕ × ℕ × ℕ) ℕ S → List (Vec ℕ) → ℕ × ℕ × ℕ → List ℕ
held shapes buckets s = bucket_at (lists_of buckets) (get same_shape shapes s)

-- each shape has a bucket of its own
pub record AreNumbered {S : Type 0} (shapes : HashMap (ℕ × ℕ × ℕ) ℕ S) (buckets : List (Vec ℕ)) : Type 0 where
  pub within : (s : ℕ × ℕ × ℕ) (i : ℕ) → get same_shape shapes s ≡ Some i → i < length buckets
  pub apart : (s t : ℕ × ℕ × ℕ) (i : ℕ) → get same_shape shapes s ≡ Some i → get same_shape shapes t ≡ Some i → s ≡ t

-- the bucket of the shape gets the position as its last, and the other buckets stay
abbrev pub AddsPosition : {S : Type 0} → ℕ × ℕ × ℕ → ℕ → HashMap (ℕ × ℕ × ℕ) ℕ S → List (Vec ℕ) → HashMap (ℕ × ℕ × ℕ) ℕ S → List (Vec ℕ) → Type 0
AddsPosition shape position shapes buckets shapes' buckets' =
    (s : ℕ × ℕ × ℕ) →
    held shapes' buckets' s ≡ (if same_shape shape s then held shapes buckets s ++ position ∷ [] else held shapes buckets s)
