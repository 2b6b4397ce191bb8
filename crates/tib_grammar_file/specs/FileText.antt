-- A printed file, however the lines of its rules are written.
use Rattle.std.specs.Prelude.{ℕ, List, [], ◌∷◌, ◌++◌}
use Rattle.std.proofs.Common.{get_or}

-- the lines of rules
abbrev pub lines_text : {R : Type 0} → (R → List ℕ) → List R → List ℕ
lines_text show [] = []
lines_text show (r ∷ rules) = show r ++ lines_text show rules

-- the start's line, and then a line for each rule
abbrev pub file_text : {R : Type 0} → (R → List ℕ) → List (List ℕ) → List R → List ℕ
file_text show names rules = (get_or names 0 [] ++ 10 ∷ []) ++ lines_text show rules
