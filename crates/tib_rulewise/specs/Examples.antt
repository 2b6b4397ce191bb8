-- A small grammar and a rule of a transducer on which the definitions are computed. The labels are
-- f 0, g 1, a 2, b 3 and c 4, and after them r1 5, r2 6 and r3 7.
use Rattle.std.specs.Prelude.{ℕ, List, [], ◌∷◌}
use Rattle.tib_tree.specs.Trees.{Tree, none, tree}
use Rattle.tib_grammar.specs.Sides.{label, hole, Lone}
use Rattle.tib_grammar.specs.declared.Rule.{Rule}
use Rattle.tib_transducer.specs.declared.TransducerRule.{TransducerRule}
use Rattle.tib_rulewise.specs.Placed.{plain_variable}
use Rattle.tib_rulewise.specs.Derivations.{rule_text}

-- the table of labels
abbrev pub table : List (List ℕ)
table = (102 ∷ []) ∷ (103 ∷ []) ∷ (97 ∷ []) ∷ (98 ∷ []) ∷ (99 ∷ []) ∷ rule_text 1 ∷ rule_text 2 ∷ rule_text 3 ∷ []

-- 0 -> f(g(a) 0) # 3, 0 -> 1 # 1 and 1 -> b # 2
abbrev pub three_rules : List (Rule ℕ)
three_rules =
    record {
      left = 0;
      right = record { label = label 0; kids = tree (label 1) (tree (label 2) none none) (tree (hole 0) none none) };
      cost = 3;
    }
    ∷ record { left = 0; right = Lone 1; cost = 1 }
    ∷ record { left = 1; right = record { label = label 3; kids = none }; cost = 2 }
    ∷ []

-- 0.r1(x0:) -> f(g(a) 0.x0) # 3
abbrev pub first_derived : TransducerRule ℕ
first_derived = record {
  state = 0;
  left = record { label = label 5; kids = tree (hole (plain_variable 0)) none none };
  right = record {
    label = label 0;
    kids = tree (label 1) (tree (label 2) none none) (tree (hole (record { state = 0; variable = 0 })) none none);
  };
  cost = 3;
}

-- r1(r2(r3)), and what it yields: f(g(a) b)
abbrev pub derivation : Tree ℕ
derivation = record { label = 5; kids = tree 6 (tree 7 none none) none }

abbrev pub yielded : Tree ℕ
yielded = record { label = 0; kids = tree 1 (tree 2 none none) (tree 3 none none) }

-- 0.f(g(x0:) x1:) -> b(1.x1 c 0.x0) # 1
abbrev pub crossing : TransducerRule ℕ
crossing = record {
  state = 0;
  left = record {
    label = label 0;
    kids = tree (label 1) (tree (hole (plain_variable 0)) none none) (tree (hole (plain_variable 1)) none none);
  };
  right = record {
    label = label 3;
    kids = tree (hole (record { state = 1; variable = 1 })) none (tree (label 4) none (tree (hole (record { state = 0; variable = 0 })) none none));
  };
  cost = 1;
}

-- 0.b(x0: c x1:) -> f(g(0.x1) 1.x0) # 1
abbrev pub crossed : TransducerRule ℕ
crossed = record {
  state = 0;
  left = record {
    label = label 3;
    kids = tree (hole (plain_variable 0)) none (tree (label 4) none (tree (hole (plain_variable 1)) none none));
  };
  right = record {
    label = label 0;
    kids = tree (label 1) (tree (hole (record { state = 0; variable = 1 })) none none) (tree (hole (record { state = 1; variable = 0 })) none none);
  };
  cost = 1;
}

-- 0.f(x0:) -> 0.x0, which has no inverse
abbrev pub lone_rule : TransducerRule ℕ
lone_rule = record {
  state = 0;
  left = record { label = label 0; kids = tree (hole (plain_variable 0)) none none };
  right = Lone (record { state = 0; variable = 0 });
  cost = 0;
}
