-- What is kept while the states are settled by their outside costs, the least one first (Dijkstra
-- 1959), once the inside costs are known.
use Rattle.std.specs.Prelude.{◌≡◌, ◌⊎◌, ℕ, ◌<◌, ◌≤◌, List, [], ◌∷◌, length, Option, Some, Contains}
use Rattle.std.proofs.Common.{zero, suc, get_or}
use Rattle.tib_grammar.specs.Sides.{holes_of}
use Rattle.tib_grammar.specs.Run.{rule_at}
use Rattle.tib_grammar.specs.declared.Rule.{Rule}
use Rattle.tib_cost.specs.Semiring.{most}
use Rattle.tib_cost.specs.Least.{times}
use Rattle.tib_inside.specs.Inside.{total}
use Rattle.tib_inside.specs.Settling.{HasOrWaits}
use Rattle.tib_prune.specs.Outside.{IsContextCost, IsOutside}

-- all but the one at place i
abbrev pub without : ℕ → List ℕ → List ℕ
without i [] = []
without zero (q ∷ qs) = qs
without (suc i) (q ∷ qs) = q ∷ without i qs

-- what the rule tells the state at place i of its right side: the product of the outside cost of
-- its left state, of its own cost, and of the inside costs of the states at the other places
abbrev pub told : (ℕ → ℕ → ℕ) → (ℕ → Option ℕ) → (ℕ → Option ℕ) → Rule ℕ → ℕ → Option ℕ
told product insides outsides r i =
    times product (outsides r.left) (times product (Some r.cost) (total product insides (without i (holes_of r.right))))

-- Each cost is the outside cost of its state, and each entry the cost of a context run to its
-- state. The start has its cost or waits for 0, and so has each state for what a rule tells it.
pub record AreSettling (product : ℕ → ℕ → ℕ) (rules : List (Rule ℕ)) (insides outsides : ℕ → Option ℕ) (entries : List (ℕ × ℕ)) : Type 0 where
  pub exact : (q d : ℕ) → outsides q ≡ Some d → IsOutside product rules q (Some d)
  pub contexts : (e : ℕ × ℕ) → Contains entries e → IsContextCost product rules e.1 e.0
  pub within : (e : ℕ × ℕ) → Contains entries e → e.0 ≤ most
  pub start : HasOrWaits outsides entries 0 0
  pub told_all :
      (n i c : ℕ) → n < length rules → i < length (holes_of (rule_at rules n).right) → told product insides outsides (rule_at rules n) i ≡ Some c →
      HasOrWaits outsides entries (get_or (holes_of (rule_at rules n).right) i 0) c

-- the state q gets the cost d
pub record Settles (old new : ℕ → Option ℕ) (q d : ℕ) : Type 0 where
  pub here : new q ≡ Some d
  pub others : (p : ℕ) → (p ≡ q → ⊥) → new p ≡ old p

-- a rule of the state q tells the entry
pub record IsTold (product : ℕ → ℕ → ℕ) (rules : List (Rule ℕ)) (insides outsides : ℕ → Option ℕ) (q : ℕ) (e : ℕ × ℕ) : Type 0 where
  pub rule : ℕ
  pub place : ℕ
  pub position : rule < length rules
  pub left : (rule_at rules rule).left ≡ q
  pub within : place < length (holes_of (rule_at rules rule).right)
  pub state : get_or (holes_of (rule_at rules rule).right) place 0 ≡ e.1
  pub cost : told product insides outsides (rule_at rules rule) place ≡ Some e.0

-- what the rules of the state q tell is added to the entries, where the states that are told have
-- no costs
pub record Tells (product : ℕ → ℕ → ℕ) (rules : List (Rule ℕ)) (insides outsides : ℕ → Option ℕ) (q : ℕ) (before after : List (ℕ × ℕ)) : Type 0 where
  pub kept : (e : ℕ × ℕ) → Contains before e → Contains after e
  pub only : (e : ℕ × ℕ) → Contains after e → Contains before e ⊎ IsTold product rules insides outsides q e
  pub all : (e : ℕ × ℕ) → IsTold product rules insides outsides q e → HasOrWaits outsides after e.1 e.0

-- c is 0 at the start, or what some rule tells the state q
abbrev pub IsOffered : (ℕ → ℕ → ℕ) → List (Rule ℕ) → (ℕ → Option ℕ) → (ℕ → Option ℕ) → ℕ → ℕ → Type 0
IsOffered product rules insides outsides q c = ((q ≡ 0) × (c ≡ 0)) ⊎ ((p : ℕ) × IsTold product rules insides outsides p (c, q))
