-- The shapes of rules: their states, and the labels and ranks at the roots of their left-hand
-- sides.
use Rattle.std.specs.Prelude.{ℕ, ◌&&◌, nat_eq, Bool}
use Rattle.tib_tree.specs.Trees.{count}
use Rattle.tib_grammar.specs.Sides.{is_label}
use Rattle.tib_transducer.specs.declared.TransducerRule.{TransducerRule}

-- whether a rule has a state, and a label and a rank at the root of its left-hand side; these three
-- numbers are its shape
abbrev pub has_shape : ℕ × ℕ × ℕ → TransducerRule ℕ → Bool
has_shape s r = (nat_eq r.state s.0 && is_label s.1 r.left.label) && nat_eq (count r.left.kids) s.2
