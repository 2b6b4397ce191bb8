-- What holds of a grammar in normal form and its index.
use Rattle.std.specs.Prelude.{length}
use Rattle.tib_normal.specs.Rules.{IsNormal}
use Rattle.tib_normal.specs.IsIndex.{IsIndex}
use Rattle.tib_normal.specs.declared.normal.Normal.TheInside.{Inside}

-- the grammar is in normal form, and the index is that of its rules
pub record IsIndexed {S : Type 0} (n : Inside S) : Type 0 where
  pub normal : IsNormal n.grammar.rules
  pub index : IsIndex n.grammar.rules (length n.grammar.names) n.index
