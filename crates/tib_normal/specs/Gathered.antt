-- The rows that are gathered side by side, and the rules that they stand for.
use Rattle.std.specs.Prelude.{◌≡◌, ℕ, ◌+◌, ◌^◌, ◌<◌, ◌≤◌, List, length, [], Some}
use Rattle.std.proofs.Common.{get_or}
use Rattle.tib_lex.specs.Lists.{Has, Ascends, total}
use Rattle.tib_cost.specs.Semiring.{most}
use Rattle.tib_cost.specs.Least.{IsLeast}
use Rattle.tib_grammar.specs.declared.Rule.{Rule}
use Rattle.tib_normal.specs.NormalForm.{rule_parts}
use Rattle.tib_normal.specs.Rows.{side_at}
use Rattle.tib_normal.specs.Offers.{IsOffer}
use Rattle.tib_normal.specs.declared.row.Row.{Row}

-- no side is without a label
abbrev pub AreFull : List (List ℕ) → Type 0
AreFull table = (s : ℕ) → s < length table → 0 < length (get_or table s [])

-- the rule that a row stands for
abbrev pub rule_of : List (List ℕ) → Row → Rule ℕ
rule_of table x = record { left = x.state; right = side_at table x.side; cost = x.cost }

-- and its parts
abbrev pub row_parts : List (List ℕ) → Row → ℕ
row_parts table x = rule_parts (rule_of table x)

-- the sides of the rows are below a number, and their rules have fewer than 2^32 parts
abbrev pub AreReady : ℕ → List (List ℕ) → List Row → Type 0
AreReady sides table rows = (x : Row) → Has rows x → (x.side < sides) × (row_parts table x < 2 ^ 32)

-- two rows are of different states or different sides
abbrev pub AreOther : Row → Row → Type 0
AreOther x y = x.state ≡ y.state → x.side ≡ y.side → ⊥

-- some rows at least costs, for the states and sides below these numbers, of which no two agree in
-- both
pub record AreLeastRows (product : ℕ → ℕ → ℕ) (rules : List (Rule ℕ)) (numbers : List ℕ)
    (sides states : ℕ) (rows : List Row) : Type 0 where
  pub least : (x : Row) → Has rows x → IsLeast (IsOffer product rules numbers x.state x.side)
      (Some x.cost)
  pub state_below : (x : Row) → Has rows x → x.state < states
  pub side_below : (x : Row) → Has rows x → x.side < sides
  pub apart : Ascends AreOther rows

-- a row for each state that has a cost of a side from number n on
pub record AreGathered (product : ℕ → ℕ → ℕ) (rules : List (Rule ℕ)) (numbers : List ℕ)
    (n sides states : ℕ) (rows : List Row) : Type 0 where
  pub are : AreLeastRows product rules numbers sides states rows
  pub from : (x : Row) → Has rows x → n ≤ x.side
  pub whole :
      (q s c : ℕ) → n ≤ s → s < sides → IsOffer product rules numbers q s c → c ≤ most →
      (d : ℕ) × Has rows (record { state = q; side = s; cost = d })

-- some rows at least costs that have more parts than the limit, where the first of them, the old
-- ones, have been counted in these parts
pub record HaveMoreParts (product : ℕ → ℕ → ℕ) (rules : List (Rule ℕ)) (numbers : List ℕ)
    (sides states : ℕ) (table : List (List ℕ)) (old : List Row) (parts limit : ℕ) : Type 0 where
  pub rows : List Row
  pub are : AreLeastRows product rules numbers sides states rows
  pub more : limit + total (row_parts table) old < parts + total (row_parts table) rows
