-- Small transducers on which the definitions are computed. The label 0 is A, 1 is B, 2 is F, 3 is
-- G, 4 is b, 5 is c, 6 is a.
use Rattle.std.specs.Prelude.{ℕ, List, [], ◌∷◌, Option, None, Some}
use Rattle.tib_tree.specs.Trees.{Trees, none, tree}
use Rattle.tib_grammar.specs.Sides.{Symbol, label, hole, Side as SideFor}
use Rattle.tib_transducer.specs.declared.Pair.{Pair}
use Rattle.tib_transducer.specs.declared.Variable.{Variable}
use Rattle.tib_transducer.specs.declared.TransducerRule.{TransducerRule}

-- the variable of this number, without a label
abbrev pub variable : ℕ → Variable
variable i = record { number = i; label = None }

-- a label alone
abbrev pub leaf : {P : Type 0} → ℕ → SideFor ℕ P
leaf f = record { label = label f; kids = none }

-- q.A(B(x0) x1) -> F(q.x0 q.x0) # 1 and q.a -> b # 2
abbrev pub copying : List (TransducerRule ℕ)
copying =
    record {
      state = 0;
      left = record { label = label 0; kids = tree (label 1) (tree (hole (variable 0)) none none) (tree (hole (variable 1)) none none) };
      right = record { label = label 2; kids = tree (hole (record { state = 0; variable = 0 })) none (tree (hole (record { state = 0; variable = 0 })) none none) };
      cost = 1;
    }
    ∷ record { state = 0; left = leaf 6; right = leaf 4; cost = 2 }
    ∷ []

-- p.F(x0 x1) -> G(p.x1 p.x0) # 1 and p.b -> c # 0
abbrev pub turning : List (TransducerRule ℕ)
turning =
    record {
      state = 0;
      left = record { label = label 2; kids = tree (hole (variable 0)) none (tree (hole (variable 1)) none none) };
      right = record { label = label 3; kids = tree (hole (record { state = 0; variable = 1 })) none (tree (hole (record { state = 0; variable = 0 })) none none) };
      cost = 1;
    }
    ∷ record { state = 0; left = leaf 4; right = leaf 5; cost = 0 }
    ∷ []

-- their composite transducer: A(B(x0) x1) -> G(x0 x0) # 2 and a -> c # 2
abbrev pub composite : List (TransducerRule ℕ)
composite =
    record {
      state = 0;
      left = record { label = label 0; kids = tree (label 1) (tree (hole (variable 0)) none none) (tree (hole (variable 1)) none none) };
      right = record { label = label 3; kids = tree (hole (record { state = 0; variable = 0 })) none (tree (hole (record { state = 0; variable = 0 })) none none) };
      cost = 2;
    }
    ∷ record { state = 0; left = leaf 6; right = leaf 5; cost = 2 }
    ∷ []

-- the choice of the first rule of the second transducer at F, and that of the second rule at b
abbrev pub at_pair : Trees (Option ℕ)
at_pair = tree (Some 0) (tree None none (tree None none none)) none

abbrev pub at_leaf : Trees (Option ℕ)
at_leaf = tree (Some 1) none none

-- the translation of the first right-hand side by that choice, G((q p).x0 (q p).x0)
abbrev pub turned : Trees (Symbol ℕ (Pair (ℕ × ℕ)))
turned =
    tree (label 3) (tree (hole (record { state = (0, 0); variable = 0 })) none (tree (hole (record { state = (0, 0); variable = 0 })) none none)) none
