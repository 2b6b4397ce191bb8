-- The entries of a vector for whose states a table has rules.
use Rattle.std.specs.Prelude.{Bool, List, length, filter, nat_lt}
use Rattle.tib_weigh.specs.Tables.{bucket}
use Rattle.tib_weigh.specs.declared.table.Table.{Table}
use Rattle.tib_weigh.specs.declared.vector.Entry.{Entry}

-- whether a table has rules for the state of an entry
abbrev pub is_served : Table → Entry → Bool
is_served t e = nat_lt 0 (length (bucket t e.state))

-- the entries of which this holds, each once and in their order
abbrev pub picks : Table → List Entry → List Entry
picks t v = filter (is_served t) v
