-- The items of a side with positions in place of what its holes carry.
use Rattle.std.specs.Prelude.{ℕ, List, [], ◌∷◌, slice_index}
use Rattle.std.proofs.Common.{suc}
use Rattle.tib_grammar.specs.Sides.{Symbol, label, hole}

-- the preorder with the positions of the ends n, n + 1 and so on in place of what the holes carry
abbrev pub settled_pairs : {P : Type 0} → List ℕ → ℕ → List (Symbol ℕ P × ℕ) → List (Symbol ℕ ℕ × ℕ)
settled_pairs ends n [] = []
settled_pairs ends n ((label f, rank) ∷ xs) = (label f, rank) ∷ settled_pairs ends n xs
settled_pairs ends n ((hole p, rank) ∷ xs) = (hole (slice_index ends n), rank) ∷ settled_pairs ends (suc n) xs
