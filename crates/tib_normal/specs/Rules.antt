-- Rules by their left state, and by the label and rank of their right side.
use Rattle.std.specs.Prelude.{◌≡◌, ℕ, ◌≤◌, Bool, ◌&&◌, nat_eq, List, [], ◌∷◌, filter, if◌then◌else◌}
use Rattle.std.proofs.Common.{suc}
use Rattle.tib_tree.specs.Trees.{count}
use Rattle.tib_lex.specs.Lists.{Ascends}
use Rattle.tib_grammar.specs.Sides.{label}
use Rattle.tib_grammar.specs.Forms.{AreNormal}
use Rattle.tib_grammar.specs.declared.Rule.{Rule}
pub use Rattle.tib_grammar.specs.Sides.{is_label}

-- whether the right side is the label f over n sides
abbrev pub is_over : ℕ → ℕ → Rule ℕ → Bool
is_over f n r = is_label f r.right.label && nat_eq (count r.right.kids) n

-- the positions, of which the first is k, of the rules whose right side is the label f over n sides
abbrev pub positions_from : ℕ → ℕ → ℕ → List (Rule ℕ) → List ℕ
positions_from k f n [] = []
positions_from k f n (r ∷ rules) =
    if is_over f n r then k ∷ positions_from (suc k) f n rules else positions_from (suc k) f n rules

-- the positions, from 0, of the rules whose right side is the label f over n sides
abbrev pub positions_with : ℕ → ℕ → List (Rule ℕ) → List ℕ
positions_with f n rules = positions_from 0 f n rules

-- the rules from a state
abbrev pub rules_from : ℕ → List (Rule ℕ) → List (Rule ℕ)
rules_from q rules = filter (λ r. nat_eq r.left q) rules

-- rules in normal form, in ascending order of their left states, of which no two agree in both
-- sides
pub record IsNormal (rules : List (Rule ℕ)) : Type 0 where
  pub normal : AreNormal rules
  pub ascends : Ascends (λ r s. r.left ≤ s.left) rules
  pub distinct : Ascends (λ r s. r.left ≡ s.left → r.right ≡ s.right → ⊥) rules
