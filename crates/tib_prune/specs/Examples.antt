-- A worked example.
use Rattle.std.specs.Prelude.{ℕ, List, [], ◌∷◌, Option, None, Some}
use Rattle.std.proofs.Common.{zero, suc}
use Rattle.tib_tree.specs.Trees.{Tree, Trees, none, tree}
use Rattle.tib_grammar.specs.Sides.{over}
use Rattle.tib_grammar.specs.declared.Rule.{Rule}
use Rattle.tib_prune.specs.Contexts.{Context, gap, below, later}

-- the rules `0 -> S(0 0) # 1` and `0 -> a # 2`, where S is label 0 and a is label 1
abbrev pub branching : List (Rule ℕ)
branching = record { left = 0; right = over 0 (0 ∷ 0 ∷ []); cost = 1 } ∷ record { left = 0; right = over 1 []; cost = 2 } ∷ []

-- the inside cost of its state by least sum
abbrev pub insides : ℕ → Option ℕ
insides zero = Some 2
insides (suc q) = None

-- its outside costs by least sum
abbrev pub outsides : ℕ → Option ℕ
outsides zero = Some 0
outsides (suc q) = None

-- the run 1
abbrev pub leaf : Tree ℕ
leaf = record { label = 1; kids = none }

-- the run 0(1 1)
abbrev pub fork : Trees ℕ
fork = tree 0 (tree 1 none (tree 1 none none)) none

-- the same without its first sub-run
abbrev pub without_first : Context ℕ
without_first = below 0 (gap (tree 1 none none)) none

-- and without its second one
abbrev pub without_second : Context ℕ
without_second = below 0 (later 1 none (gap none)) none
