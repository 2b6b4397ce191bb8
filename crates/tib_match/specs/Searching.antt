-- Matches that with what their states at the holes cost stay within the greatest cost, and the
-- search for them among boxes.
use Rattle.std.specs.Prelude.{◌≡◌, ◌⊎◌, ℕ, ◌+◌, ◌<◌, ◌≤◌, List, [], ◌∷◌, ◌++◌, length, map, reverse, replicate, Option, None, Some}
use Rattle.std.specs.Global.{Vec}
use Rattle.std.specs.Ordering.{nat_cmp}
use Rattle.std.specs.Cmp.Lexicographic.{slice_cmp}
use Rattle.std.specs.declared.cmp.Ordering.TheVariants.{Less}
use Rattle.std.proofs.Common.{get_or, set}
use Rattle.tib_lex.specs.Lists.{Has, Each, Ascends}
use Rattle.tib_cost.specs.Semiring.{most}
use Rattle.tib_cost.specs.Least.{IsLeast}
use Rattle.tib_grammar.specs.Sides.{Symbol, Side as SideFor}
use Rattle.tib_grammar.specs.declared.Rule.{Rule}
use Rattle.tib_normal.specs.Rules.{positions_with}
use Rattle.tib_match.specs.Matches.{IsMatch}
use Rattle.tib_match.specs.Boxes.{cost_at, cost_along, spanned, all_spanned, Inside, IsReadBox, IsColumn, column_of, stack_of}
use Rattle.tib_match.specs.declared.hole_cost.HoleCost.{HoleCost}
use Rattle.tib_match.specs.declared.hole_cost.HoleCost.TheVariants.{Free}
use Rattle.tib_match.specs.declared.spans.Span.{Span}
use Rattle.tib_match.specs.declared.within.Within.{Within}
use Rattle.tib_match.specs.declared.within.Within.TheVariants.{All, More}

-- a match that with a cost above it and the costs of its states costs no more than the greatest
-- cost
pub record IsWithin (product : ℕ → ℕ → ℕ) (above : ℕ) (costs : List HoleCost) (m : List ℕ × ℕ) : Type 0 where
  pub beside : ℕ
  pub is_beside : cost_along product (map cost_at costs) m.0 ≡ Some beside
  pub within : product (product above m.1) beside ≤ most

-- the lists of states ascend
abbrev pub ListsAscend : List (List ℕ × ℕ) → Type 0
ListsAscend ms = Ascends (λ (a : List ℕ × ℕ) (b : List ℕ × ℕ). slice_cmp nat_cmp a.0 b.0 ≡ Less) ms

module _ {P : Type 0} (product : ℕ → ℕ → ℕ) (rules : List (Rule ℕ)) (side : SideFor ℕ P) (q : ℕ) (Counts : List ℕ × ℕ → Type 0) where
  -- some matches of a side from q, each list once at its least cost, ascending: among them all that
  -- count
  pub record AreMatchesWhere (ms : List (List ℕ × ℕ)) : Type 0 where
    pub ascend : ListsAscend ms
    pub least : Each (λ (m : List ℕ × ℕ). IsMatch product rules side q m.0 (Some m.1)) ms
    pub whole : (ss : List ℕ) (c : ℕ) → IsMatch product rules side q ss (Some c) → Counts (ss, c) → Has ms (ss, c)

  -- more matches that count than a number
  pub record AreMoreWhere (number : ℕ) : Type 0 where
    pub matches : List (List ℕ × ℕ)
    pub ascend : ListsAscend matches
    pub least : Each (λ (m : List ℕ × ℕ). IsMatch product rules side q m.0 (Some m.1)) matches
    pub count : Each Counts matches
    pub more : number < length matches

  -- all matches that count, or that they are more than a number
  abbrev pub AnswersWhere : ℕ → Within → Type 0
  AnswersWhere number (All ms) = AreMatchesWhere ms.items
  AnswersWhere number More = AreMoreWhere number

-- the span of no state
abbrev pub no_span : Span
no_span = record { low = 0; high = 0 }

-- a span of some state, of at most one, of more than one
abbrev pub IsOpen : Span → Type 0
IsOpen r = r.low < r.high

abbrev pub IsNarrow : Span → Type 0
IsNarrow r = r.high ≤ r.low + 1

abbrev pub IsWide : Span → Type 0
IsWide r = r.low + 1 < r.high

-- the box of one list, and the first list of a box
abbrev pub singles : List ℕ → List Span
singles ss = map (λ s. record { low = s; high = s + 1 }) ss

abbrev pub lows : List Span → List ℕ
lows rs = map (λ r. r.low) rs

-- each list in the one box is before each in the other
abbrev pub IsBefore : List Span → List Span → Type 0
IsBefore rs ts = (ss us : List ℕ) → Inside rs ss → Inside ts us → slice_cmp nat_cmp ss us ≡ Less

abbrev pub boxes_of : List (Vec Span) → List (List Span)
boxes_of bs = map (λ b. b.items) bs

-- What was found and the boxes that wait, the next one last: they ascend, each match that was found
-- is one, and each match within the greatest cost was found or is in a box.
pub record IsUnderway {P : Type 0} (product : ℕ → ℕ → ℕ) (rules : List (Rule ℕ)) (side : SideFor ℕ P) (q above : ℕ) (costs : List HoleCost)
    (found : List (List ℕ × ℕ)) (boxes : List (List Span)) : Type 0 where
  pub ascend : Ascends IsBefore (map (λ (m : List ℕ × ℕ). singles m.0) found ++ reverse boxes)
  pub opened : Each (Each IsOpen) boxes
  pub long : Each (λ b. length b ≡ length costs) boxes
  pub least : Each (λ (m : List ℕ × ℕ). IsMatch product rules side q m.0 (Some m.1)) found
  pub within : Each (IsWithin product above costs) found
  pub whole : (ss : List ℕ) (c : ℕ) → IsMatch product rules side q ss (Some c) → IsWithin product above costs (ss, c) →
      Has found (ss, c) ⊎ ((b : List Span) × Has boxes b × Inside b ss)

-- the span at a place is the first wide one
pub record IsFirstWide (spans : List Span) (place : ℕ) : Type 0 where
  pub inside : place < length spans
  pub wide : IsWide (get_or spans place no_span)
  pub before : (i : ℕ) → i < place → IsNarrow (get_or spans i no_span)

-- no span is wide
abbrev pub AreNarrow : List Span → Type 0
AreNarrow spans = (i : ℕ) → i < length spans → IsNarrow (get_or spans i no_span)

-- the place is that of the first wide span, if there is one
abbrev pub IsWideAnswer : List Span → Option ℕ → Type 0
IsWideAnswer spans None = AreNarrow spans
IsWideAnswer spans (Some place) = IsFirstWide spans place

-- the boxes with the two halves of one after them, the lower one last
pub record HasHalves (spans : List Span) (place : ℕ) (old new : List (List Span)) : Type 0 where
  pub middle : ℕ
  pub above_low : (get_or spans place no_span).low < middle
  pub below_high : middle < (get_or spans place no_span).high
  pub pushed : new
      ≡ old ++ set spans place (record { low = middle; high = (get_or spans place no_span).high }) ∷ set spans place (record { low = (get_or spans place no_span).low; high = middle }) ∷ []

-- the first list of a box at its cost after others, where it has one
abbrev pub IsFoundAt : List Span → Option ℕ → List (List ℕ × ℕ) → List (List ℕ × ℕ) → Type 0
IsFoundAt spans None old new = new ≡ old
IsFoundAt spans (Some c) old new = new ≡ old ++ (lows spans, c) ∷ []

-- what was found with what a box has at its first list, where states cost nothing
pub record Takes {P : Type 0} (product : ℕ → ℕ → ℕ) (rules : List (Rule ℕ)) (xs : List (Symbol ℕ P × ℕ)) (q many : ℕ) (spans : List Span) (old new : List (List ℕ × ℕ)) : Type 0 where
  pub least : Option ℕ
  pub is_least : IsLeast (IsReadBox product rules xs (q ∷ []) (all_spanned spans (replicate many Free))) least
  pub found : IsFoundAt spans least old new

-- the column of a label in place of those of its children
pub record StacksLabel (product : ℕ → ℕ → ℕ) (rules : List (Rule ℕ)) (f rank : ℕ) (old new : List (List (Option ℕ))) : Type 0 where
  pub front : List (List (Option ℕ))
  pub last : List (List (Option ℕ))
  pub column : List (Option ℕ)
  pub before : old ≡ front ++ last
  pub long : length last ≡ rank
  pub after : new ≡ front ++ column ∷ []
  pub is_column : IsColumn product rules (positions_with f rank rules) (stack_of last) (column_of column)

-- the column of the last of some holes after others
pub record StacksHole (costs : List HoleCost) (spans : List Span) (holes left : ℕ) (old new : List (List (Option ℕ))) : Type 0 where
  pub one_less : holes ≡ left + 1
  pub few_costs : left < length costs
  pub few_spans : left < length spans
  pub column : List (Option ℕ)
  pub after : new ≡ old ++ column ∷ []
  pub is_column : (q : ℕ) → column_of column q ≡ spanned (get_or spans left no_span) (cost_at (get_or costs left Free)) q
