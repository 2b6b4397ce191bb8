-- Boxes: a span of states for each hole of a side; and what matches in them cost.
use Rattle.std.specs.Prelude.{◌≡◌, ℕ, ◌+◌, ◌<◌, ◌≤◌, nat_le, List, [], ◌∷◌, ◌++◌, length, map, reverse, Option, None, Some, if◌then◌else◌}
use Rattle.std.proofs.Common.{get_or}
use Rattle.tib_lex.specs.Lists.{Has}
use Rattle.tib_cost.specs.Least.{IsLeast, AtMost, Products, times, lesser}
use Rattle.tib_grammar.specs.Sides.{Symbol, label, hole, holes}
use Rattle.tib_grammar.specs.Run.{rule_at}
use Rattle.tib_grammar.specs.declared.Rule.{Rule}
use Rattle.tib_match.specs.MatchLists.{ReadsRule}
use Rattle.tib_match.specs.declared.hole_cost.HoleCost.{HoleCost}
use Rattle.tib_match.specs.declared.hole_cost.HoleCost.TheVariants.{Free, Table}
use Rattle.tib_match.specs.declared.spans.Span.{Span}

-- what a state at a hole costs
abbrev pub cost_at : HoleCost → ℕ → Option ℕ
cost_at Free q = Some 0
cost_at (Table costs) q = get_or costs.items q None

-- the product of the costs of some states, each in its own place; none where there are not as many
abbrev pub cost_along : (ℕ → ℕ → ℕ) → List (ℕ → Option ℕ) → List ℕ → Option ℕ
cost_along product [] [] = Some 0
cost_along product [] (q ∷ qs) = None
cost_along product (f ∷ fs) [] = None
cost_along product (f ∷ fs) (q ∷ qs) = times product (f q) (cost_along product fs qs)

-- the cost of a state of the span, none for any other
abbrev pub spanned : Span → (ℕ → Option ℕ) → ℕ → Option ℕ
spanned r f q = if nat_le r.low q then (if nat_le (q + 1) r.high then f q else None) else None

abbrev pub all_spanned : List Span → List HoleCost → List (ℕ → Option ℕ)
all_spanned [] hs = []
all_spanned (r ∷ rs) [] = []
all_spanned (r ∷ rs) (h ∷ hs) = spanned r (cost_at h) ∷ all_spanned rs hs

-- each state is in its span
abbrev pub Inside : List Span → List ℕ → Type 0
Inside [] [] = Unit {0}
Inside [] (s ∷ ss) = ⊥
Inside (r ∷ rs) [] = ⊥
Inside (r ∷ rs) (s ∷ ss) = (r.low ≤ s) × (s < r.high) × Inside rs ss

module _ (product : ℕ → ℕ → ℕ) (rules : List (Rule ℕ)) where
  -- c is the cost of rules for the labels of a preorder, read from the front, as `IsReadCost` has
  -- it, with the cost of the state at each hole
  abbrev pub IsReadBox : {P : Type 0} → List (Symbol ℕ P × ℕ) → List ℕ → List (ℕ → Option ℕ) → ℕ → Type 0
  IsReadBox [] [] [] c = c ≡ 0
  IsReadBox [] [] (f ∷ fs) c = ⊥
  IsReadBox [] (q ∷ qs) fs c = ⊥
  IsReadBox ((label g, rank) ∷ xs) [] fs c = ⊥
  IsReadBox ((label g, rank) ∷ xs) (q ∷ qs) fs c = ReadsRule product rules q g rank (λ below. IsReadBox xs (below ++ qs) fs) c
  IsReadBox ((hole p, rank) ∷ xs) [] fs c = ⊥
  IsReadBox ((hole p, rank) ∷ xs) (q ∷ qs) [] c = ⊥
  IsReadBox ((hole p, rank) ∷ xs) (q ∷ qs) (f ∷ fs) c = Products product (λ a. f q ≡ Some a) (IsReadBox xs qs fs) c

  -- a column has for each state the least cost of one of some rules of the state and of the states
  -- below it
  pub record IsColumn (positions : List ℕ) (below : List (ℕ → Option ℕ)) (column : ℕ → Option ℕ) : Type 0 where
    pub attained : (q c : ℕ) → column q ≡ Some c →
        (n : ℕ) × Has positions n × ((rule_at rules n).left ≡ q) × (times product (Some (rule_at rules n).cost) (cost_along product below (holes (rule_at rules n).right.kids)) ≡ Some c)
    pub lower : (n c : ℕ) → Has positions n → times product (Some (rule_at rules n).cost) (cost_along product below (holes (rule_at rules n).right.kids)) ≡ Some c →
        AtMost (column (rule_at rules n).left) c

-- the cost of each state in a column
abbrev pub column_of : List (Option ℕ) → ℕ → Option ℕ
column_of column q = get_or column q None

-- the columns that wait for their parent, the first child's first, which is stored last
abbrev pub stack_of : List (List (Option ℕ)) → List (ℕ → Option ℕ)
stack_of columns = reverse (map column_of columns)

-- a column in which one more rule was tried, over the columns below it
pub record IsLowered (product : ℕ → ℕ → ℕ) (rule : Rule ℕ) (below : List (ℕ → Option ℕ)) (old new : List (Option ℕ)) : Type 0 where
  pub long : length new ≡ length old
  pub others : (q : ℕ) → (q ≡ rule.left → ⊥) → get_or new q None ≡ get_or old q None
  pub own : get_or new rule.left None ≡ lesser (get_or old rule.left None) (times product (Some rule.cost) (cost_along product below (holes rule.right.kids)))

-- the columns have the least costs of what is read along a preorder, whatever states wait for it
abbrev pub AreColumns : (ℕ → ℕ → ℕ) → List (Rule ℕ) → {P : Type 0} → List (Symbol ℕ P × ℕ) → List (ℕ → Option ℕ) → List (List (Option ℕ)) → Type 0
AreColumns product rules xs fs columns = (qs : List ℕ) → IsLeast (IsReadBox product rules xs qs fs) (cost_along product (stack_of columns) qs)
