-- Small values on which the definitions are computed. The labels are S, a and b, and the words u
-- and v, from 0 on.
use Rattle.std.specs.Prelude.{ℕ, List, [], ◌∷◌, None}
use Rattle.tib_tree.specs.Trees.{Tree, Trees, none, tree}
use Rattle.tib_grammar.specs.Sides.{over, Side as SideFor}
use Rattle.tib_transducer.specs.declared.Variable.{Variable}
use Rattle.tib_strings.specs.declared.Word.{Word as Token}
use Rattle.tib_strings.specs.declared.Word.TheVariants.{Word, Hole}
use Rattle.tib_strings.specs.declared.StringRule.{StringRule}

-- S(x0: x1:)
abbrev pub pattern : SideFor ℕ Variable
pattern = over 0 (record { number = 0; label = None } ∷ record { number = 1; label = None } ∷ [])

-- t.x0 t.x1
abbrev pub two_pairs : List (Token ℕ)
two_pairs = Hole (record { state = 0; variable = 0 }) ∷ Hole (record { state = 0; variable = 1 }) ∷ []

-- t.S(x0: x1:) -> t.x0 t.x1 # 1, t.a -> u # 0 and t.b -> u v # 2
abbrev pub spelling : List (StringRule ℕ)
spelling =
    record { state = 0; left = pattern; right = two_pairs; cost = 1 }
    ∷ record { state = 0; left = over 1 []; right = Word 3 ∷ []; cost = 0 }
    ∷ record { state = 0; left = over 2 []; right = Word 3 ∷ Word 4 ∷ []; cost = 2 }
    ∷ []

-- u u v
abbrev pub sentence : List ℕ
sentence = 3 ∷ 3 ∷ 4 ∷ []

-- S(a b)
abbrev pub spelled : Tree ℕ
spelled = record { label = 0; kids = tree 1 none (tree 2 none none) }

-- the run of the first rule over the second and the third
abbrev pub spelling_run : Trees ℕ
spelling_run = tree 0 (tree 1 none (tree 2 none none)) none
