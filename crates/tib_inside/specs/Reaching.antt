-- The states that live rules lead to.
use Rattle.std.specs.Prelude.{◌≡◌, ℕ, ◌+◌, ◌<◌, ◌≤◌, ◌⊎◌, List, [], ◌∷◌, ◌++◌, length, map, Bool, true, false, ◌&&◌, if◌then◌else◌, Option, sum_by, ◌↔◌}
use Rattle.std.specs.Option.{is_some}
use Rattle.std.proofs.Common.{zero, suc, get_or}
use Rattle.tib_lex.specs.Lists.{Has, Ascends}
use Rattle.tib_tree.specs.Trees.{only}
use Rattle.tib_grammar.specs.Sides.{holes_of, HolesAreLeaves}
use Rattle.tib_grammar.specs.GrammarOf.{named_rule}
use Rattle.tib_grammar.specs.Renaming.{number_in}
use Rattle.tib_grammar.specs.Run.{rule_at}
use Rattle.tib_grammar.specs.declared.Rule.{Rule}
use Rattle.tib_inside.specs.Settling.{rule_total}
use Rattle.tib_inside.specs.Useful.{IsLive, IsUseful}
use Rattle.tib_inside.specs.Renaming.{AscendsByPlace}
use Rattle.tib_grammar.specs.Range.{AreBelow}

-- for each rule, whether the product with the costs of the states in its right side is a cost
abbrev pub lives : (ℕ → ℕ → ℕ) → (ℕ → Option ℕ) → List (Rule ℕ) → List Bool
lives product costs rules = map (λ r. is_some (rule_total product costs r)) rules

-- the left states of some rules
abbrev pub lefts : List (Rule ℕ) → List ℕ
lefts rules = map (λ r. r.left) rules

-- the place is marked
abbrev pub IsMarked : List Bool → ℕ → Type 0
IsMarked marks q = get_or marks q false ≡ true

-- the start is reached, and so is each state in the right side of a marked rule of a state that is
-- reached
pub data IsReached (rules : List (Rule ℕ)) (live : List Bool) : ℕ → Type 0 where
  start : IsReached rules live 0
  below :
      (n q : ℕ) → n < length rules → IsMarked live n → IsReached rules live (rule_at rules n).left →
      Has (holes_of (rule_at rules n).right) q → IsReached rules live q

-- one for a place that is not marked
abbrev pub unmarked : Bool → ℕ
unmarked true = 0
unmarked false = 1

-- the states that are wanted are marked, and those that were not marked before lie on the stack
pub record Marks (IsWanted : ℕ → Type 0) (old new : List Bool)
    (before after : List ℕ) : Type 0 where
  pub long : length new ≡ length old
  pub marked : (q : ℕ) → IsWanted q → IsMarked new q
  pub kept : (q : ℕ) → IsMarked old q → IsMarked new q
  pub only : (q : ℕ) → IsMarked new q → IsMarked old q ⊎ IsWanted q
  pub fresh : (q : ℕ) → IsMarked new q → IsMarked old q ⊎ Has after q
  pub waiting : (q : ℕ) → Has before q → Has after q
  pub on_stack : (q : ℕ) → Has after q → Has before q ⊎ IsMarked new q
  pub more : length after + sum_by unmarked new ≤ length before + sum_by unmarked old

-- q is in the right side of a marked rule of p before m
pub record Follows (rules : List (Rule ℕ)) (live : List Bool) (p m q : ℕ) : Type 0 where
  pub rule : ℕ
  pub before : rule < m
  pub below : rule < length rules
  pub left : (rule_at rules rule).left ≡ p
  pub is_live : IsMarked live rule
  pub stands : Has (holes_of (rule_at rules rule).right) q

-- all marked states are reached, and what each leads to is marked, or it lies on the stack
pub record IsReaching (rules : List (Rule ℕ)) (live kept : List Bool)
    (stack : List ℕ) : Type 0 where
  pub begun : IsMarked kept 0
  pub only : (q : ℕ) → IsMarked kept q → IsReached rules live q
  pub waiting : (q : ℕ) → Has stack q → IsMarked kept q
  pub closed :
      (n q : ℕ) → n < length rules → IsMarked live n → IsMarked kept (rule_at rules n).left → Has (holes_of (rule_at rules n).right) q →
      IsMarked kept q ⊎ Has stack (rule_at rules n).left

-- the marked states are those that are reached
pub record AreReached (rules : List (Rule ℕ)) (live kept : List Bool) : Type 0 where
  pub only : (q : ℕ) → IsMarked kept q → IsReached rules live q
  pub all : (q : ℕ) → IsReached rules live q → IsMarked kept q

-- the marked rules of marked states
abbrev pub both_marked : List (Rule ℕ) → List Bool → List Bool → ℕ → Bool
both_marked rules live kept n = get_or live n false && get_or kept (rule_at rules n).left false

-- the numbers below n that a test holds of, ascending
abbrev pub chosen : (ℕ → Bool) → ℕ → List ℕ
chosen test zero = []
chosen test (suc n) = if test n then chosen test n ++ n ∷ [] else chosen test n

-- the start and the useful states, and the live rules of useful states, each ascending
pub record AreKept (product : ℕ → ℕ → ℕ) (rules : List (Rule ℕ)) (count : ℕ)
    (states positions : List ℕ) : Type 0 where
  pub states_ascend : Ascends ◌<◌ states
  pub states_by_place : AscendsByPlace states
  pub states_below : AreBelow count states
  pub states_few : length states ≤ count
  pub are_states : (q : ℕ) → Has states q ↔ ((q ≡ 0) ⊎ IsUseful product rules q)
  pub rules_ascend : Ascends ◌<◌ positions
  pub rules_below : AreBelow (length rules) positions
  pub rules_few : length positions ≤ length rules
  pub are_rules : (n : ℕ) → Has positions n
      ↔ (IsLive product rules n × IsUseful product rules (rule_at rules n).left)

-- the marked ones of the first rules are moved, under new numbers, and in none of them is anything
-- below a hole
pub record AreMoved (rules : List (Rule ℕ)) (marks : List Bool) (numbers : List ℕ) (count : ℕ)
    (moved : List (Rule ℕ)) : Type 0 where
  pub are : moved ≡ map (λ n. named_rule (number_in numbers) (rule_at rules n)) (chosen (λ i.
      get_or marks i false) count)
  pub leaves : (n : ℕ) → n < count → IsMarked marks n →
      HolesAreLeaves (only (rule_at rules n).right)
