-- Labels in the order of their texts.
use Rattle.std.specs.Prelude.{◌≡◌, ℕ, ◌<◌, List, length, Contains, IsSortedBy}
use Rattle.std.specs.declared.cmp.Ordering.{Ordering}
use Rattle.std.specs.Ordering.{nat_cmp, is_lt}
use Rattle.std.specs.Cmp.Lexicographic.{slice_cmp}
use Rattle.tib_tree.specs.Growth.{text_at}

-- two labels by their texts
abbrev pub text_cmp : List (List ℕ) → ℕ → ℕ → Ordering
text_cmp labels f g = slice_cmp nat_cmp (text_at labels f) (text_at labels g)

-- all labels below n, in some order
pub record AreLabelsBelow (n : ℕ) (order : List ℕ) : Type 0 where
  pub long : length order ≡ n
  pub held : (f : ℕ) → f < n → Contains order f
  pub below : (f : ℕ) → Contains order f → f < n

-- all labels, in the order of their texts
pub record IsTextOrder (labels : List (List ℕ)) (order : List ℕ) : Type 0 where
  pub all : AreLabelsBelow (length labels) order
  pub sorted : IsSortedBy (λ f g. is_lt (text_cmp labels f g)) order
