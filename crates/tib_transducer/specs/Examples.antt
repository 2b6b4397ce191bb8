-- A small transducer on which the definitions are computed. The labels are S 0, NP 1, VP 2, a 3, Z
-- 4, n 5 and v 6.
use Rattle.std.specs.Prelude.{ℕ, List, [], ◌∷◌, None, Some}
use Rattle.tib_tree.specs.Trees.{Tree, Trees, none, tree}
use Rattle.tib_grammar.specs.Sides.{label, hole}
use Rattle.tib_transducer.specs.declared.TransducerRule.{TransducerRule}

-- t.S(x0: x1:VP) -> Z(t.x0) # 1, t.NP(x0:) -> n # 0 and t.VP(x0:) -> v # 0
abbrev pub first_parts : List (TransducerRule ℕ)
first_parts =
    record {
      state = 0;
      left = record {
        label = label 0;
        kids = tree (hole (record { number = 0; label = None })) none (tree (hole (record { number = 1; label = Some 2 })) none none);
      };
      right = record { label = label 4; kids = tree (hole (record { state = 0; variable = 0 })) none none };
      cost = 1;
    }
    ∷ record {
      state = 0;
      left = record { label = label 1; kids = tree (hole (record { number = 0; label = None })) none none };
      right = record { label = label 5; kids = none };
      cost = 0;
    }
    ∷ record {
      state = 0;
      left = record { label = label 2; kids = tree (hole (record { number = 0; label = None })) none none };
      right = record { label = label 6; kids = none };
      cost = 0;
    }
    ∷ []

-- the run that takes the first rule, and at its pair the second
abbrev pub run : Trees ℕ
run = tree 0 (tree 1 none none) none

-- S(NP(a) VP(a))
abbrev pub sentence : Tree ℕ
sentence = record { label = 0; kids = tree 1 (tree 3 none none) (tree 2 (tree 3 none none) none) }

-- S(NP(a) NP(a))
abbrev pub two_nouns : Tree ℕ
two_nouns = record { label = 0; kids = tree 1 (tree 3 none none) (tree 1 (tree 3 none none) none) }

-- Z(n)
abbrev pub image : Tree ℕ
image = record { label = 4; kids = tree 5 none none }
