-- How one side spreads against the chain rules, state by state.
use Rattle.std.specs.Prelude.{◌≡◌, ℕ, ◌+◌, ◌<◌, ◌≤◌, ◌⊎◌, List, length, Option, None, Some, Contains, slice_set, ◌∷◌, [], ◌++◌}
use Rattle.std.proofs.Common.{get_or}
use Rattle.tib_grammar.specs.declared.Rule.{Rule}
use Rattle.tib_grammar.specs.Run.{rule_at}
use Rattle.tib_grammar.specs.Sides.{Lone}
use Rattle.tib_cost.specs.Semiring.{most}
use Rattle.tib_cost.specs.Least.{IsLeast}
use Rattle.tib_normal.specs.Links.{no_key}
use Rattle.tib_normal.specs.Offers.{IsOffer, no_side}
use Rattle.tib_normal.specs.declared.row.Row.{Row}
use Rattle.tib_normal.specs.declared.spread.Spread.{Spread}

-- n is a chain rule from p to r
pub record LeadsTo (rules : List (Rule ℕ)) (p n r : ℕ) : Type 0 where
  pub below : n < length rules
  pub left : (rule_at rules n).left ≡ p
  pub right : (rule_at rules n).right ≡ Lone r

-- r waits at a cost of at most c
pub record Waits (entries : List (ℕ × ℕ)) (r c : ℕ) : Type 0 where
  pub cost : ℕ
  pub held : Contains entries (cost, r)
  pub small : cost ≤ c

-- r has its cost, or waits for one of at most c
abbrev pub HasOrWaits : (ℕ → Option ℕ) → List (ℕ × ℕ) → ℕ → ℕ → Type 0
HasOrWaits costs entries r c = ((e : ℕ) × (costs r ≡ Some e)) ⊎ Waits entries r c

-- Some states have their least costs of the side s. Where a chain rule leads to one of them, its
-- left state has one too or waits; and so has each rule with the side.
pub record IsClosing (product : ℕ → ℕ → ℕ) (rules : List (Rule ℕ)) (numbers : List ℕ) (s : ℕ)
    (costs : ℕ → Option ℕ) (entries : List (ℕ × ℕ)) : Type 0 where
  pub exact : (r d : ℕ) → costs r ≡ Some d → IsLeast (IsOffer product rules numbers r s) (Some d)
  pub offers : (e : ℕ × ℕ) → Contains entries e → IsOffer product rules numbers e.1 s e.0
      × (e.0 ≤ most)
  pub covered :
      (p d n r : ℕ) → costs r ≡ Some d → LeadsTo rules p n r → product d (rule_at rules n).cost ≤ most →
      HasOrWaits costs entries p (product d (rule_at rules n).cost)
  pub start :
      (n : ℕ) → n < length rules → get_or numbers n no_side ≡ s → (rule_at rules n).cost ≤ most →
      HasOrWaits costs entries (rule_at rules n).left (rule_at rules n).cost

-- The entries grow by the left state of one rule, at the product of d and the rule's cost.
pub record IsStep (product : ℕ → ℕ → ℕ) (r : Rule ℕ) (d : ℕ) (old new : List (ℕ × ℕ)) : Type 0 where
  pub kept : (e : ℕ × ℕ) → Contains old e → Contains new e
  pub added : product d r.cost ≤ most → Contains new (product d r.cost, r.left)
  pub only : (e : ℕ × ℕ) → Contains new e → Contains old e
      ⊎ ((r.left ≡ e.1) × (product d r.cost ≡ e.0) × (e.0 ≤ most))
  pub long : length new ≤ length old + 1

-- The entries grow by the left states of the rules before m that have the key k.
pub record Spreads (product : ℕ → ℕ → ℕ) (rules : List (Rule ℕ)) (keys : List ℕ) (k d m : ℕ)
    (old new : List (ℕ × ℕ)) : Type 0 where
  pub kept : (e : ℕ × ℕ) → Contains old e → Contains new e
  pub added :
      (n : ℕ) → n < m → n < length rules → get_or keys n no_key ≡ k → product d (rule_at rules n).cost ≤ most →
      Contains new (product d (rule_at rules n).cost, (rule_at rules n).left)
  pub only :
      (e : ℕ × ℕ) → Contains new e →
      Contains old e
      ⊎ ((n : ℕ) × (n < length rules) × (get_or keys n no_key ≡ k) × ((rule_at rules n).left ≡ e.1) × (product d (rule_at rules n).cost ≡ e.0) × (e.0 ≤ most))
  pub long : length new ≤ length old + m

-- a state that has its cost is passed over
pub record Skips (row : Row) (old new : Spread) (rows now : List Row) (parts sum : ℕ) : Type 0 where
  pub cost : ℕ
  pub known : get_or old.costs.items row.state None ≡ Some cost
  pub same : new.costs.items ≡ old.costs.items
  pub waiting : new.agenda ≡ old.agenda
  pub list : new.reached.items ≡ old.reached.items
  pub rows_same : now ≡ rows
  pub sum_same : sum ≡ parts

-- A state gets its cost and its row with its parts, and the left states of the chain rules to it
-- are queued.
pub record Settles (product : ℕ → ℕ → ℕ) (rules : List (Rule ℕ)) (ends : List ℕ) (row : Row)
    (more : ℕ) (old new : Spread) (rows now : List Row) (parts sum : ℕ) : Type 0 where
  pub unknown : get_or old.costs.items row.state None ≡ None
  pub set : new.costs.items ≡ slice_set old.costs.items row.state (Some row.cost)
  pub spreads : Spreads product rules ends row.state row.cost (length rules) old.agenda new.agenda
  pub list : new.reached.items ≡ old.reached.items ++ row.state ∷ []
  pub rows_more : now ≡ rows ++ row ∷ []
  pub sum_more : sum ≡ parts + more

-- each state that has a cost is listed
abbrev pub AreListed : List (Option ℕ) → List ℕ → Type 0
AreListed costs reached = (r d : ℕ) → get_or costs r None ≡ Some d → Contains reached r

-- no state has a cost or waits
pub record IsClear (spread : Spread) : Type 0 where
  pub costs : (r : ℕ) → get_or spread.costs.items r None ≡ None
  pub waiting : spread.agenda ≡ []
  pub list : spread.reached.items ≡ []
