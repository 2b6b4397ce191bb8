-- What rules with any right sides tell the states in them, item by item.
use Rattle.std.specs.Prelude.{◌≡◌, ℕ, ◌<◌, ◌≤◌, List, ◌++◌, [], ◌∷◌, length, Option, Some}
use Rattle.tib_cost.specs.Least.{times}
use Rattle.tib_grammar.specs.Items.{holes_in}
use Rattle.tib_grammar.specs.Run.{rule_at}
use Rattle.tib_grammar.specs.Sides.{holes_of}
use Rattle.tib_grammar.specs.declared.Item.{Item}
use Rattle.tib_grammar.specs.declared.Rule.{Rule}
use Rattle.tib_inside.specs.Inside.{total}
use Rattle.tib_prune.specs.Telling.{rests_of, IsToldFrom, Adds}

-- v is the product of the costs of an item and of the states qs after it, and the rests are the
-- products after each of them
pub record GoesBack (product : ℕ → ℕ → ℕ) (costs : ℕ → Option ℕ) (item : Item ℕ) (v : Option ℕ)
    (rests : List (Option ℕ)) (qs : List ℕ) : Type 0 where
  pub whole : v ≡ total product costs (holes_in (item ∷ []) ++ qs)
  pub listed : rests ≡ rests_of product costs (holes_in (item ∷ []) ++ qs)

-- An item is done before the states qs. What they are told from w on is what the item and they are
-- told from v on, and the products after each of them are left.
pub record GoesOn (product : ℕ → ℕ → ℕ) (insides outsides : ℕ → Option ℕ) (item : Item ℕ)
    (v : Option ℕ) (before : List (ℕ × ℕ)) (w : Option ℕ) (rests : List (Option ℕ))
    (after : List (ℕ × ℕ)) (qs : List ℕ) : Type 0 where
  pub left : rests ≡ rests_of product insides qs
  pub tells :
      (final : List (ℕ × ℕ)) → Adds outsides (IsToldFrom product insides w qs) (length qs) after final →
      Adds outsides (IsToldFrom product insides v (holes_in (item ∷ []) ++ qs))
      (length (holes_in (item ∷ []) ++ qs)) before final

-- a rule of the state q from position i on tells the entry, where d is the outside cost of q
pub record IsToldAfter (product : ℕ → ℕ → ℕ) (insides : ℕ → Option ℕ) (rules : List (Rule ℕ))
    (q d i : ℕ) (e : ℕ × ℕ) : Type 0 where
  pub rule : ℕ
  pub from : i ≤ rule
  pub below : rule < length rules
  pub left : (rule_at rules rule).left ≡ q
  pub told : IsToldFrom product insides (times product (Some d) (Some (rule_at rules rule).cost))
      (holes_of (rule_at rules rule).right) e
