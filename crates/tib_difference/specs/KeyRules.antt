-- How rules over places and over positions are read as edges over keys.
use Rattle.std.specs.Prelude.{ℕ}
use Rattle.tib_grammar.specs.GrammarOf.{named_rule}
use Rattle.tib_grammar.specs.declared.Rule.{Rule}
use Rattle.tib_grammar.specs.Positions.{positions_of}
use Rattle.tib_expand.specs.Reading.{Reading}
use Rattle.tib_determinize.specs.VectorRules.{places_of, read_places}
use Rattle.tib_determinize.specs.declared.vector_rule.VectorRule.{VectorRule}
use Rattle.tib_difference.specs.Difference.{KeyOf}

abbrev pub key_reading : Reading KeyOf (Rule KeyOf) VectorRule (Rule ℕ)
key_reading = record {
  places = λ r. places_of r;
  positions = λ r. positions_of r;
  read_places = λ f r. read_places f r;
  read_positions = λ f r. named_rule f r;
}
