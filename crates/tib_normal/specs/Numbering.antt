-- The sides of rules as they get their numbers.
use Rattle.std.specs.Prelude.{◌≡◌, ℕ, ◌<◌, ◌⊎◌, List, [], ◌∷◌, ◌++◌, length, set}
use Rattle.std.proofs.Common.{get_or}
use Rattle.tib_grammar.specs.Sides.{label, hole}
use Rattle.tib_grammar.specs.declared.Rule.{Rule}
use Rattle.tib_normal.specs.Places.{head_states}

-- no side occurs at two places
pub record AreApart (table : List (List ℕ)) : Type 0 where
  pub once : (s t : ℕ) → s < length table → t < length table →
      get_or table s [] ≡ get_or table t [] → s ≡ t

-- Rule n gets the number of its side: its index among the others, to which it is added last if it
-- is new.
pub record GetsNumber (side : List ℕ) (n : ℕ) (old new : List (List ℕ))
    (before after : List ℕ) : Type 0 where
  pub number : ℕ
  pub below : number < length new
  pub is : get_or new number [] ≡ side
  pub given : after ≡ set before n number
  pub table : (new ≡ old) ⊎ (new ≡ old ++ side ∷ [])
  pub apart : AreApart new

-- Rule n, whose places have their states from first on, gets the number of its side; a chain rule
-- gets none.
pub record IsNumbered (rule : Rule ℕ) (n first : ℕ) (old new : List (List ℕ))
    (before after : List ℕ) : Type 0 where
  pub chain : (q : ℕ) → rule.right.label ≡ hole q → (new ≡ old) × (after ≡ before)
  pub own : (f : ℕ) → rule.right.label ≡ label f →
      GetsNumber (f ∷ head_states first rule.right.kids) n old new before after
