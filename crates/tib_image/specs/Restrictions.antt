-- The restrictions that labelled variables of a tree-to-string transducer put on trees: those of a
-- tree transducer that reads the same.
use Rattle.std.specs.Prelude.{ℕ, List, map}
use Rattle.tib_tree.specs.Trees.{none}
use Rattle.tib_grammar.specs.Sides.{label}
use Rattle.tib_transducer.specs.declared.TransducerRule.{TransducerRule}
use Rattle.tib_strings.specs.declared.StringRule.{StringRule}
use Rattle.tib_apply.specs.Restrictions.{restricted_labels as labels_of_rules}

-- a rule of a tree transducer that reads what the rule reads, in its state and at its cost, and
-- puts out the label 0
abbrev pub as_rule : StringRule ℕ → TransducerRule ℕ
as_rule r = record { state = r.state; left = r.left; right = record { label = label 0; kids = none }; cost = r.cost }

-- the distinct labels of labelled variables, in the order of rules and of preorder on the left
abbrev pub restricted_labels : List (StringRule ℕ) → List ℕ
restricted_labels rules = labels_of_rules (map as_rule rules)
