-- What an index of rules holds for a label and a rank.
use Rattle.std.specs.Prelude.{◌≡◌, ℕ, ◌<◌, List, length, get_or, Some}
use Rattle.std.specs.HashMap.{get}
use Rattle.tib_tree.specs.Trees.{none}
use Rattle.tib_grammar.specs.declared.Rule.{Rule}
use Rattle.tib_normal.specs.Index.{same_shape}
use Rattle.tib_normal.specs.Rules.{positions_with}
use Rattle.tib_weigh.specs.Vectors.{IsVectorOf}
use Rattle.tib_weigh.specs.Tables.{IsTable}
use Rattle.tib_weigh.specs.declared.table.Table.{Table}
use Rattle.tib_weigh.specs.declared.index.Shape.{Shape}
use Rattle.tib_weigh.specs.declared.index.Index.{Index}

-- a table of the rules at these positions for each of n child places
pub record AreTables (rules : List (Rule ℕ)) (ps : List ℕ) (n : ℕ) (tables : List Table) : Type 0 where
  pub long : length tables ≡ n
  pub each : (j : ℕ) (t : Table) → j < n → t ≡ get_or tables j t → IsTable rules n ps j t

-- the tables of the label f over n states, and for n = 0 the vector of a leaf
pub record IsShape (product : ℕ → ℕ → ℕ) (rules : List (Rule ℕ)) (f n : ℕ) (s : Shape) : Type 0 where
  pub tables : AreTables rules (positions_with f n rules) n s.tables.items
  pub leaf : n ≡ 0 → IsVectorOf product rules f none s.leaf.items

-- what is there for a label and a rank is that of these
abbrev pub IsIndex : (ℕ → ℕ → ℕ) → List (Rule ℕ) → Index → Type 0
IsIndex product rules index =
    (f n : ℕ) (s : Shape) → get same_shape index.shapes (f, n) ≡ Some s → IsShape product rules f n s
