-- At least so many lists of states at the holes of a side, and for at most which cost each.
use Rattle.std.specs.Prelude.{◌≡◌, ◌⊎◌, ℕ, ◌+◌, ◌*◌, ◌<◌, ◌≤◌, List, [], ◌∷◌, ◌++◌, length, map, take, reverse, Option, None, Some}
use Rattle.std.specs.Ordering.{nat_cmp}
use Rattle.std.specs.Cmp.Lexicographic.{slice_cmp}
use Rattle.std.specs.declared.cmp.Ordering.TheVariants.{Less}
use Rattle.std.proofs.Common.{zero, suc, get_or}
use Rattle.tib_lex.specs.Lists.{Has, Each, Ascends}
use Rattle.tib_grammar.specs.Sides.{Symbol, label, hole, holes}
use Rattle.tib_grammar.specs.Run.{rule_at}
use Rattle.tib_grammar.specs.declared.Rule.{Rule}
use Rattle.tib_match.specs.Boxes.{all_spanned, cost_at, IsReadBox}
use Rattle.tib_match.specs.Searching.{singles}
use Rattle.tib_match.specs.declared.hole_cost.HoleCost.{HoleCost}
use Rattle.tib_match.specs.declared.plenty.Plenty.{Plenty}
use Rattle.tib_match.specs.declared.plenty.Plenties.{Plenties}

-- the one list comes before the other
abbrev pub ComesFirst : List ℕ → List ℕ → Type 0
ComesFirst ss us = slice_cmp nat_cmp ss us ≡ Less

-- what a column has for a state
abbrev pub plenty_at : Plenties → ℕ → Option Plenty
plenty_at column q = get_or column.states.items q None

-- the columns that wait for their parent, the first child's first, which is stored last
abbrev pub plenties_of : List Plenties → List (ℕ → Option Plenty)
plenties_of columns = reverse (map plenty_at columns)

module _ (product : ℕ → ℕ → ℕ) where
  -- along some columns there are for these states at least this many lists, up to this cost: the
  -- products of what each column has for its state
  abbrev pub HasAlong : List (ℕ → Option Plenty) → List ℕ → ℕ → ℕ → Type 0
  HasAlong [] [] count worst = (count ≤ 1) × (worst ≡ 0)
  HasAlong [] (q ∷ qs) count worst = ⊥
  HasAlong (f ∷ fs) [] count worst = ⊥
  HasAlong (f ∷ fs) (q ∷ qs) count worst =
      (p : Plenty) × (f q ≡ Some p) × (m : ℕ) × (w : ℕ) × HasAlong fs qs m w × (count ≤ p.count * m) × (product p.worst w ≡ worst)

  module _ (rules : List (Rule ℕ)) where
    -- a preorder is read to some states, with what they cost at the holes, for at most this cost
    pub record IsReadAt {P : Type 0} (xs : List (Symbol ℕ P × ℕ)) (qs : List ℕ) (costs : List HoleCost) (worst : ℕ) (ss : List ℕ) : Type 0 where
      pub cost : ℕ
      pub read : IsReadBox product rules xs qs (all_spanned (singles ss) costs) cost
      pub low : cost ≤ worst
      pub long : length ss ≡ length costs

    -- a preorder is read to at least this many lists, each for at most this cost; they ascend
    pub record HasLists {P : Type 0} (xs : List (Symbol ℕ P × ℕ)) (costs : List HoleCost) (qs : List ℕ) (count worst : ℕ) : Type 0 where
      pub lists : List (List ℕ)
      pub ascend : Ascends ComesFirst lists
      pub read : Each (IsReadAt xs qs costs worst) lists
      pub many : count ≤ length lists

    -- whatever states wait: along the columns there are no more lists than there are
    abbrev pub AreCounted : {P : Type 0} → List (Symbol ℕ P × ℕ) → List HoleCost → List Plenties → Type 0
    AreCounted xs costs columns = (qs : List ℕ) (count worst : ℕ) → HasAlong (plenties_of columns) qs count worst → HasLists xs costs qs count worst

    module _ (positions : List ℕ) (below : List (ℕ → Option Plenty)) (front q : ℕ) where
      -- the rule n, one of q at these positions, has this many lists up to this cost over the
      -- columns below it
      pub record IsPart (n count worst : ℕ) : Type 0 where
        pub listed : Has positions n
        pub left : (rule_at rules n).left ≡ q
        pub inner : ℕ
        pub along : HasAlong below (holes (rule_at rules n).right.kids) count inner
        pub low : product (rule_at rules n).cost inner ≤ worst

      -- the first states below the one rule come before those below the other
      abbrev pub IsEarlier : ℕ → ℕ → Type 0
      IsEarlier m n = ComesFirst (take front (holes (rule_at rules m).right.kids)) (take front (holes (rule_at rules n).right.kids))

      -- some rules, the last one first, each with later states below it than those before, have
      -- together this many lists up to this cost
      abbrev pub HasChain : List ℕ → ℕ → ℕ → Type 0
      HasChain [] count worst = count ≡ 0
      HasChain (n ∷ ns) count worst =
          (k : ℕ) × (m : ℕ) × IsPart n k worst × HasChain ns m worst × Each (λ j. IsEarlier j n) ns × (count ≤ k + m)

      -- what was counted for a state, the last rule first
      pub record IsChained (p : Plenty) : Type 0 where
        pub others : List ℕ
        pub chain : HasChain (p.last ∷ others) p.count p.worst

    -- each state has what some of its rules at these positions have together, the first states
    -- below them ascending
    abbrev pub AreChained : List ℕ → List (ℕ → Option Plenty) → ℕ → (ℕ → Option Plenty) → Type 0
    AreChained positions below front column = (q : ℕ) (p : Plenty) → column q ≡ Some p → IsChained positions below front q p

-- a preorder begins with this many holes
abbrev pub BeginWithHoles : ℕ → {P : Type 0} → List (Symbol ℕ P × ℕ) → Type 0
BeginWithHoles zero xs = Unit {0}
BeginWithHoles (suc n) [] = ⊥
BeginWithHoles (suc n) ((label f, rank) ∷ xs) = ⊥
BeginWithHoles (suc n) ((hole x, rank) ∷ xs) = BeginWithHoles n xs

-- the first of the two, the second, or both together where the first states of the first come
-- before those of the second
abbrev pub IsMerged : (First : Type 0) → Plenty → Plenty → Plenty → Type 0
IsMerged First one two both =
    (both ≡ one) ⊎ ((both ≡ two) ⊎ (First × (both.last ≡ two.last) × (both.count ≤ one.count + two.count) × (one.worst ≤ both.worst) × (two.worst ≤ both.worst)))

-- the column of a label in place of those of its children
pub record StacksChain (product : ℕ → ℕ → ℕ) (rules : List (Rule ℕ)) (positions : List ℕ) (front : ℕ) (old new : List Plenties) : Type 0 where
  pub before_last : List Plenties
  pub last : List Plenties
  pub column : Plenties
  pub before : old ≡ before_last ++ last
  pub after : new ≡ before_last ++ column ∷ []
  pub chained : AreChained product rules positions (plenties_of last) front (plenty_at column)

-- what a state has at a hole: one list, at its cost there
abbrev pub IsOneAt : HoleCost → (ℕ → Option Plenty) → Type 0
IsOneAt cost column = (q : ℕ) (p : Plenty) → column q ≡ Some p → (p.count ≡ 1) × (cost_at cost q ≡ Some p.worst)

-- the column of the last of some holes after others
pub record StacksOne (costs : List HoleCost) (default : HoleCost) (holes left : ℕ) (old new : List Plenties) : Type 0 where
  pub one_less : holes ≡ left + 1
  pub few_costs : left < length costs
  pub column : Plenties
  pub after : new ≡ old ++ column ∷ []
  pub is_column : IsOneAt (get_or costs left default) (plenty_at column)
