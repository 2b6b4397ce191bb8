-- The first tree of each state, in the order of Knuth (1977) by cost and size.
use Rattle.std.specs.Prelude.{◌≡◌, ℕ, ◌<◌, ◌≤◌, ◌⊎◌, List, [], length}
use Rattle.tib_tree.specs.Trees.{size}
use Rattle.tib_cost.specs.Semiring.{most}
use Rattle.tib_grammar.specs.Forms.{AreNormal}
use Rattle.tib_grammar.specs.Run.{rule_at}
use Rattle.tib_grammar.specs.declared.Rule.{Rule}
use Rattle.tib_ranked_trees.specs.First.{NoLater, IsNext}
use Rattle.tib_ranked_trees.specs.Best.{Cheaper, IsTreeAt, Costed}
use Rattle.tib_ranked_trees.specs.Levels.{IsOrderly, states_at}
use Rattle.tib_ranked_trees.specs.Pass.{Entries, AreRanks, zeros_at, offer, AreFronts}

-- a rule makes a tree of the first trees of its states, within the greatest cost, for a state
-- that has none
pub record IsReady (product : ℕ → ℕ → ℕ) (rules : List (Rule ℕ)) (entries : Entries)
    (n : ℕ) : Type 0 where
  pub below : n < length rules
  pub open_state : entries (rule_at rules n).left ≡ []
  pub ranks : AreRanks entries (states_at rules n) (zeros_at rules n)
  pub fits : (offer product rules entries n (zeros_at rules n)).1 ≤ most

-- what such a rule makes
abbrev pub first_offer : (ℕ → ℕ → ℕ) → List (Rule ℕ) → Entries → ℕ → Costed
first_offer product rules entries n = offer product rules entries n (zeros_at rules n)

-- a costs no more than b, and where it costs as much it has no more nodes
abbrev pub NoLarger : Costed → Costed → Type 0
NoLarger a b = (a.1 < b.1) ⊎ ((a.1 ≡ b.1) × (size a.0 ≤ size b.0))

-- The tree that a rule makes is the first of its state, if it is no later than those that other
-- rules make for the state, and no larger than those that are made for any state; and where no
-- rule makes one, the states without a tree have none.
pub record FirstsAreBest (product : ℕ → ℕ → ℕ) : Type 0 where
  pub next :
      (labels : List (List ℕ)) (rules : List (Rule ℕ)) (entries : Entries) → AreNormal rules →
      IsOrderly product rules →
      AreFronts product labels rules entries → (n : ℕ) → IsReady product rules entries n →
      ((m : ℕ) → IsReady product rules entries m →
      (rule_at rules m).left ≡ (rule_at rules n).left →
      NoLater (Cheaper labels) (first_offer product rules entries n)
      (first_offer product rules entries m)) →
      ((m : ℕ) → IsReady product rules entries m →
      NoLarger (first_offer product rules entries n) (first_offer product rules entries m)) →
      IsNext (IsTreeAt product rules (rule_at rules n).left) (Cheaper labels)
      (entries (rule_at rules n).left) (first_offer product rules entries n)
  pub whole :
      (labels : List (List ℕ)) (rules : List (Rule ℕ)) (entries : Entries) → AreNormal rules →
      IsOrderly product rules →
      AreFronts product labels rules entries → ((n : ℕ) → IsReady product rules entries n → ⊥) →
      (q : ℕ) → entries q ≡ [] → (y : Costed) → IsTreeAt product rules q y → ⊥
