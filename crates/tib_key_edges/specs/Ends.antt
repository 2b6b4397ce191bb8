-- Ends of edges as places, and the pair at a position.
use Rattle.std.specs.Prelude.{ℕ, List, [], ◌∷◌}
use Rattle.std.proofs.Common.{zero, suc, get_or}
use Rattle.tib_expand.specs.declared.place.Place.{Place}
use Rattle.tib_expand.specs.declared.place.Place.TheVariants.{End}

-- n ends side by side, from number i on
abbrev pub ends_from : ℕ → ℕ → List Place
ends_from i zero = []
ends_from i (suc n) = End i ∷ ends_from (suc i) n

-- the pair at a position of an order
abbrev pub key_at : List (ℕ × ℕ) → ℕ → ℕ × ℕ
key_at order n = get_or order n (0, 0)
