-- The grammar of the runs of a grammar.
use Rattle.std.specs.Prelude.{ℕ, List, [], ◌∷◌}
use Rattle.std.proofs.Common.{suc}
use Rattle.tib_grammar.specs.Sides.{holes_of, over}
use Rattle.tib_grammar.specs.declared.Rule.{Rule}

-- rule n, from q to a side with the states q1 .. qk in preorder at the cost w, as the rule
-- `q -> n(q1 .. qk) # w`
abbrev pub run_rule : ℕ → Rule ℕ → Rule ℕ
run_rule n r = record { left = r.left; right = over n (holes_of r.right); cost = r.cost }

-- rules as those of their runs, where the first of them has the number n
abbrev pub runs_from : ℕ → List (Rule ℕ) → List (Rule ℕ)
runs_from n [] = []
runs_from n (r ∷ rules) = run_rule n r ∷ runs_from (suc n) rules

-- The grammar of runs: the same states, and for each rule the one over its states whose label is
-- its position. So its trees are the runs of the grammar.
abbrev pub runs_of : List (Rule ℕ) → List (Rule ℕ)
runs_of rules = runs_from 0 rules
