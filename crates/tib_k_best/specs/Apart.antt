-- Rules of the start, and of other states, with different right-hand sides.
use Rattle.std.specs.Prelude.{◌≡◌, ℕ, ◌<◌, Bool, List, length, nat_eq}
use Rattle.tib_lex.specs.Lists.{Has}
use Rattle.tib_tree.specs.Trees.{preorder_of}
use Rattle.tib_grammar.specs.Items.{pairs_of}
use Rattle.tib_grammar.specs.Run.{rule_at}
use Rattle.tib_grammar.specs.declared.Item.{Item}
use Rattle.tib_grammar.specs.declared.Rule.{Rule}

-- no two rules of the start, or no two of all other states, have the same right-hand side
abbrev pub AreApart : List (Rule ℕ) → Bool → Type 0
AreApart rules of_start =
    (m n : ℕ) → m < length rules → n < length rules →
    nat_eq (rule_at rules m).left 0 ≡ of_start → nat_eq (rule_at rules n).left 0 ≡ of_start →
    (rule_at rules m).right ≡ (rule_at rules n).right → m ≡ n

-- the items of the right-hand sides of those among the first n rules are noted, and they are
-- different
pub record AreNoted (rules : List (Rule ℕ)) (of_start : Bool) (lists : List (List (Item ℕ)))
    (n : ℕ) : Type 0 where
  pub held : (k : ℕ) → k < n → nat_eq (rule_at rules k).left 0 ≡ of_start →
      (items : List (Item ℕ)) × Has lists items × (pairs_of items ≡ preorder_of (rule_at rules k).right)
  pub apart : (j k : ℕ) → j < k → k < n → nat_eq (rule_at rules j).left 0 ≡ of_start →
      nat_eq (rule_at rules k).left 0 ≡ of_start →
      (rule_at rules j).right ≡ (rule_at rules k).right → ⊥
