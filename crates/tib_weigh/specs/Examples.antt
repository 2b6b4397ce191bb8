-- Small values on which the definitions are computed. The label 0 is S, 1 is a and 2 is b; from the
-- nested side on 0 is f, 1 is g, 2 is a and 3 is b.
use Rattle.std.specs.Prelude.{ℕ, List, [], ◌∷◌}
use Rattle.tib_tree.specs.Trees.{Tree, Trees, none, tree}
use Rattle.tib_grammar.specs.Sides.{label, hole, over, Lone, Side as SideFor}
use Rattle.tib_grammar.specs.declared.Rule.{Rule}

-- the texts of S and a
abbrev pub table : List (List ℕ)
table = (83 ∷ []) ∷ (97 ∷ []) ∷ []

-- S(a a)
abbrev pub pair : Tree ℕ
pair = record { label = 0; kids = tree 1 none (tree 1 none none) }

-- the side S(0 a(1)), with the states 0 and 1
abbrev pub side : SideFor ℕ ℕ
side = record { label = label 0; kids = tree (hole 0) none (tree (label 1) (tree (hole 1) none none) none) }

-- 0 -> S(0 0) # 1 and 0 -> a # 2
abbrev pub binary : List (Rule ℕ)
binary = record { left = 0; right = over 0 (0 ∷ 0 ∷ []); cost = 1 } ∷ record { left = 0; right = over 1 []; cost = 2 } ∷ []

-- the run that takes the first rule, and below it the second one twice
abbrev pub run : Trees ℕ
run = tree 0 (tree 1 none (tree 1 none none)) none

-- two ways to S(a a): 0 -> S(1 1) # 5 and 1 -> a # 1, or 0 -> S(2 2) # 1 and 2 -> a # 2
abbrev pub two_ways : List (Rule ℕ)
two_ways =
    record { left = 0; right = over 0 (1 ∷ 1 ∷ []); cost = 5 }
    ∷ record { left = 1; right = over 1 []; cost = 1 }
    ∷ record { left = 0; right = over 0 (2 ∷ 2 ∷ []); cost = 1 }
    ∷ record { left = 2; right = over 1 []; cost = 2 }
    ∷ []

-- the side f(g(a) 0), with the state 0
abbrev pub nested_side : SideFor ℕ ℕ
nested_side = record { label = label 0; kids = tree (label 1) (tree (label 2) none none) (tree (hole 0) none none) }

-- 0 -> f(g(a) 0) # 3, 0 -> 1 # 1 and 1 -> b # 2
abbrev pub nested : List (Rule ℕ)
nested =
    record { left = 0; right = nested_side; cost = 3 }
    ∷ record { left = 0; right = Lone 1; cost = 1 }
    ∷ record { left = 1; right = over 3 []; cost = 2 }
    ∷ []

-- 2 -> g(3) # 0 and 3 -> a # 0
abbrev pub places : List (Rule ℕ)
places = record { left = 2; right = over 1 (3 ∷ []); cost = 0 } ∷ record { left = 3; right = over 2 []; cost = 0 } ∷ []

-- 0 -> f(2 0) # 3, 0 -> b # 3, 1 -> b # 2, 2 -> g(3) # 0 and 3 -> a # 0
abbrev pub normal_rules : List (Rule ℕ)
normal_rules =
    record { left = 0; right = over 0 (2 ∷ 0 ∷ []); cost = 3 }
    ∷ record { left = 0; right = over 3 []; cost = 3 }
    ∷ record { left = 1; right = over 3 []; cost = 2 }
    ∷ places
