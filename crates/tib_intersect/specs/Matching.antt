-- The shapes of rules, by which those that a rule agrees with are found.
use Rattle.std.specs.Prelude.{ℕ, ◌&&◌, nat_eq, Bool}
use Rattle.tib_tree.specs.Trees.{count}
use Rattle.tib_grammar.specs.declared.Rule.{Rule}
use Rattle.tib_grammar.specs.Sides.{is_label}

-- whether a rule has a left state, a label at its root and a rank; these three numbers are its
-- shape
abbrev pub has_shape : ℕ × ℕ × ℕ → Rule ℕ → Bool
has_shape s r = (nat_eq r.left s.0 && is_label s.1 r.right.label) && nat_eq (count r.right.kids) s.2
