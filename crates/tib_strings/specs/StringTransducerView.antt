-- What a tree-to-string transducer is seen as, and what it keeps.
use Rattle.std.specs.Prelude.{◌<◌, length}
use Rattle.tib_grammar.specs.StateName.{AreStateNames}
use Rattle.tib_strings.specs.StringTransducerOf.{StringTransducerOf}
use Rattle.tib_strings.specs.Range.{AreWithin, AreShaped}
use Rattle.tib_strings.specs.declared.StringTransducer.TheInside.{Inside}

abbrev pub string_transducer_of : {S : Type 0} → Inside S → StringTransducerOf
string_transducer_of t = record { names = t.names; rules = t.rules.items }

-- there is a start, the rules' states have names, which are state names, and the rules have their
-- shape
pub record IsStringTransducer {S : Type 0} (t : Inside S) : Type 0 where
  pub start : 0 < length t.names
  pub few_names : length t.names < 4294967296
  pub names : AreStateNames t.names
  pub few_rules : length t.rules.items < 4294967296
  pub range : AreWithin (length t.names) t.rules.items
  pub shaped : AreShaped t.rules.items
