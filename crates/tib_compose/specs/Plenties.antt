-- How many translations there are at least, and how much they put out together.
use Rattle.std.specs.Prelude.{◌≡◌, ℕ, ◌+◌, ◌*◌, ◌≤◌, List, [], ◌∷◌, ◌++◌, length, Option, None, Some, if◌then◌else◌}
use Rattle.std.specs.HashMap.{get}
use Rattle.tib_lex.specs.Lists.{total}
use Rattle.tib_tree.specs.Trees.{Trees}
use Rattle.tib_cost.specs.Semiring.{most}
use Rattle.tib_grammar.specs.Sides.{Symbol}
use Rattle.tib_transducer.specs.declared.Pair.{Pair}
use Rattle.tib_transducer.specs.declared.TransducerRule.{TransducerRule}
use Rattle.tib_key_edges.specs.Pieces.{Piece as PieceOf, read, Result, results}
use Rattle.tib_compose.specs.Bounds.{same_pair}
use Rattle.tib_compose.specs.PieceViews.{side_there}
use Rattle.tib_compose.specs.Searches.{affordable, all_of, reader_results}
use Rattle.tib_compose.specs.declared.plenty.Plenty.{Plenty}
use Rattle.tib_compose.specs.declared.plenty.Plenties.{Plenties}

-- no more than each of the one with each of the other
pub record IsProduct (product : ℕ → ℕ → ℕ) (one two both : Plenty) : Type 0 where
  pub count : both.count ≤ one.count * two.count
  pub items : both.items ≤ one.count * two.items + one.items * two.count
  pub worst : product one.worst two.worst ≤ both.worst

-- no more than those of the one and those of the other
pub record IsSum (one two both : Plenty) : Type 0 where
  pub count : both.count ≤ one.count + two.count
  pub items : both.items ≤ one.items + two.items
  pub first : one.worst ≤ both.worst
  pub second : two.worst ≤ both.worst

-- the same, where the one or the other may be missing
abbrev pub AreAdded : Option Plenty → Option Plenty → Option Plenty → Type 0
AreAdded None two both = both ≡ two
AreAdded (Some one) None both = both ≡ Some one
AreAdded (Some one) (Some two) both = (v : Plenty) × (both ≡ Some v) × IsSum one two v

-- the items that some results put out
abbrev pub items_in : List Result → ℕ
items_in rs = total (λ r. length r.1) rs

-- so many results at least, which after n items put out so many more together
pub record AreMany (rs : List Result) (n : ℕ) (v : Plenty) : Type 0 where
  pub count : v.count ≤ length rs
  pub items : v.count * n + v.items ≤ items_in rs

-- what the table has for a node and a state
abbrev pub plenty_of : Plenties → ℕ → ℕ → Option Plenty
plenty_of t i p = get same_pair t.table (i, p)

-- that of one node and state is set, and the others stay
abbrev pub SetsPlenty : ℕ → ℕ → Plenty → Plenties → Plenties → Type 0
SetsPlenty node state v old new =
    (i p : ℕ) → plenty_of new i p ≡ (if same_pair (node, state) (i, p) then Some v else plenty_of old i p)

module _ (product : ℕ → ℕ → ℕ) (two : List (TransducerRule ℕ)) where
  -- so many results come of some pieces at any cost that with the worst is within the greatest
  abbrev pub HasPlenty : List PieceOf → Plenty → Type 0
  HasPlenty ws v =
      (cost : ℕ) (done : List (Symbol ℕ (Pair (ℕ × ℕ)) × ℕ)) → product cost v.worst ≤ most → AreMany (affordable (results product two cost done ws)) (length done) v

  -- some pieces have so many translations before any others
  abbrev pub AddsPlenty : List PieceOf → Plenty → Type 0
  AddsPlenty ps v = (ws : List PieceOf) (u z : Plenty) → HasPlenty ws u → IsProduct product v u z → HasPlenty (ps ++ ws) z

  -- so have the rules at some positions that read a label over some sides
  abbrev pub RulesAdd : Trees (Symbol ℕ (Pair ℕ)) → List ℕ → Plenty → Type 0
  RulesAdd kids ms v =
      (ws : List PieceOf) (u z : Plenty) → HasPlenty ws u → IsProduct product v u z → (cost : ℕ) (done : List (Symbol ℕ (Pair (ℕ × ℕ)) × ℕ)) → product cost z.worst ≤ most →
      AreMany (all_of (reader_results product two cost done kids ws) ms) (length done) z

  -- so has each node by each state for which the table has something
  abbrev pub ArePlenties : List (Symbol ℕ (Pair ℕ) × ℕ) → Plenties → Type 0
  ArePlenties pairs t = (i p : ℕ) (v : Plenty) → plenty_of t i p ≡ Some v → AddsPlenty (read (side_there pairs i) p ∷ []) v
