-- The rules of the second grammar by their shapes: the state at the first place, the label and the
-- rank.
use Rattle.std.specs.Prelude.{ℕ, ◌&&◌, nat_eq, Bool}
use Rattle.std.proofs.Common.{get_or}
use Rattle.tib_tree.specs.Trees.{count}
use Rattle.tib_grammar.specs.Sides.{holes, is_label}
use Rattle.tib_grammar.specs.declared.Rule.{Rule}

-- the state at the first place, 0 where there is none
abbrev pub first_state : Rule ℕ → ℕ
first_state r = get_or (holes r.right.kids) 0 0

-- whether a rule has a state at its first place, a label at its root and a rank; these three
-- numbers are its shape
abbrev pub has_shape : ℕ × ℕ × ℕ → Rule ℕ → Bool
has_shape s r = (nat_eq (first_state r) s.0 && is_label s.1 r.right.label) && nat_eq (count r.right.kids) s.2
