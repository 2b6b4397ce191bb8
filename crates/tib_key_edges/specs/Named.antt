-- Rules of a transducer with their states exchanged.
use Rattle.tib_grammar.specs.Sides.{side_map}
use Rattle.tib_transducer.specs.declared.TransducerRule.{TransducerRule}
use Rattle.tib_transducer.specs.NamedPairs.{named_pair}

-- a rule with each state exchanged so
abbrev pub named_transducer_rule : {P Q : Type 0} → (P → Q) → TransducerRule P → TransducerRule Q
named_transducer_rule g r = record { state = g r.state; left = r.left; right = side_map (named_pair g) r.right; cost = r.cost }
