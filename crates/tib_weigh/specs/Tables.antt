-- What a table of rules by the states at one child place holds.
use Rattle.std.specs.Prelude.{ℕ, List}
use Rattle.tib_grammar.specs.declared.Rule.{Rule}
use Rattle.tib_weigh.specs.Buckets.{slots_of, slot_at, HoldsAll, HoldsOnly}
use Rattle.tib_weigh.specs.declared.ready.Ready.{Ready}
use Rattle.tib_weigh.specs.declared.table.Table.{Table}

-- the rules that the table has for a state
abbrev pub bucket : Table → ℕ → List Ready
bucket t q = slot_at (slots_of t.slots.starts.items t.slots.ready.items) q

-- the table holds the rules at these positions, of n states each, by the states at the child place
-- j
pub record IsTable (rules : List (Rule ℕ)) (n : ℕ) (ps : List ℕ) (j : ℕ) (t : Table) : Type 0 where
  pub all : HoldsAll rules j ps (slots_of t.slots.starts.items t.slots.ready.items)
  pub only : HoldsOnly rules n j ps (slots_of t.slots.starts.items t.slots.ready.items)
