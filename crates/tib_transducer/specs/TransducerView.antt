-- What a transducer is seen as, and what it keeps.
use Rattle.std.specs.Prelude.{◌<◌, length}
use Rattle.tib_grammar.specs.StateName.{AreStateNames}
use Rattle.tib_transducer.specs.TransducerOf.{TransducerOf}
use Rattle.tib_transducer.specs.Range.{AreWithin, AreShaped, EndInHoles}
use Rattle.tib_transducer.specs.declared.Transducer.TheInside.{Inside}

abbrev pub transducer_of : {S : Type 0} → Inside S → TransducerOf
transducer_of t = record { names = t.names; rules = t.rules.items }

-- there is a start, the rules' states have names, which are state names, the rules have their
-- shape, and nothing is below a leaf
pub record IsTransducer {S : Type 0} (t : Inside S) : Type 0 where
  pub start : 0 < length t.names
  pub few_names : length t.names < 4294967296
  pub names : AreStateNames t.names
  pub few_rules : length t.rules.items < 4294967296
  pub range : AreWithin (length t.names) t.rules.items
  pub shaped : AreShaped t.rules.items
  pub leaves : EndInHoles t.rules.items
