-- A tree and a transducer on which the definitions are computed. The labels are A 0, a 1, B 2, b 3
-- and c 4.
use Rattle.std.specs.Prelude.{ℕ, List, [], ◌∷◌, None}
use Rattle.tib_tree.specs.Trees.{Tree, none, tree}
use Rattle.tib_grammar.specs.Sides.{over}
use Rattle.tib_grammar.specs.declared.Rule.{Rule}
use Rattle.tib_transducer.specs.declared.TransducerRule.{TransducerRule}

-- t.A(x0:) -> B(t.x0 t.x0) # 1, t.a -> b # 0 and t.a -> c # 2
abbrev pub copying : List (TransducerRule ℕ)
copying =
    record {
      state = 0;
      left = over 0 (record { number = 0; label = None } ∷ []);
      right = over 2 (record { state = 0; variable = 0 } ∷ record { state = 0; variable = 0 } ∷ []);
      cost = 1;
    }
    ∷ record { state = 0; left = over 1 []; right = over 3 []; cost = 0 }
    ∷ record { state = 0; left = over 1 []; right = over 4 []; cost = 2 }
    ∷ []

-- A(a)
abbrev pub one_tree : Tree ℕ
one_tree = record { label = 0; kids = tree 1 none none }

-- the key of the start and the root, and that of the start and the leaf
abbrev pub both : List (ℕ × ℕ)
both = (0, 0) ∷ (0, 1) ∷ []

-- 0 -> B(1 1) # 1, 1 -> b # 0 and 1 -> c # 2
abbrev pub outputs : List (Rule ℕ)
outputs =
    record { left = 0; right = over 2 (1 ∷ 1 ∷ []); cost = 1 }
    ∷ record { left = 1; right = over 3 []; cost = 0 }
    ∷ record { left = 1; right = over 4 []; cost = 2 }
    ∷ []
