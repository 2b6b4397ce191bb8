-- A grammar whose determinization is computed. The label 0 is f, and 1 is a.
use Rattle.std.specs.Prelude.{ℕ, List, [], ◌∷◌}
use Rattle.tib_grammar.specs.Sides.{over, Lone}
use Rattle.tib_grammar.specs.declared.Rule.{Rule}
use Rattle.tib_determinize.specs.Vectors.{VectorOf}

-- 0 -> f(1) # 1, 0 -> f(2) # 3, 1 -> a # 2 and 2 -> a # 1
abbrev pub ambiguous : List (Rule ℕ)
ambiguous =
    record { left = 0; right = over 0 (1 ∷ []); cost = 1 }
    ∷ record { left = 0; right = over 0 (2 ∷ []); cost = 3 }
    ∷ record { left = 1; right = over 1 []; cost = 2 }
    ∷ record { left = 2; right = over 1 []; cost = 1 }
    ∷ []

-- the vectors of a and of f(a)
abbrev pub at_leaf : VectorOf
at_leaf = (1, 1) ∷ (2, 0) ∷ []

abbrev pub at_root : VectorOf
at_root = (0, 0) ∷ []

abbrev pub both : List VectorOf
both = at_leaf ∷ at_root ∷ []

-- at_leaf -> a # 1 and at_root -> f(at_leaf) # 2
abbrev pub determinized : List (Rule ℕ)
determinized = record { left = 0; right = over 1 []; cost = 1 } ∷ record { left = 1; right = over 0 (0 ∷ []); cost = 2 } ∷ []

-- with the fresh start 0: 0 -> 2 # 0, 1 -> a # 1 and 2 -> f(1) # 2
abbrev pub with_start : List (Rule ℕ)
with_start =
    record { left = 0; right = Lone 2; cost = 0 }
    ∷ record { left = 1; right = over 1 []; cost = 1 }
    ∷ record { left = 2; right = over 0 (1 ∷ []); cost = 2 }
    ∷ []
