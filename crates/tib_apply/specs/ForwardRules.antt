-- Edges of forward application over places, and lists of these.
use Rattle.std.specs.Prelude.{ℕ}
use Rattle.tib_grammar.specs.declared.Rule.{Rule}
use Rattle.tib_expand.specs.Reading.{Reading}
use Rattle.tib_transducer.specs.declared.Pair.{Pair}
use Rattle.tib_key_edges.specs.declared.side_rule.SideRule.{SideRule}
use Rattle.tib_key_edges.specs.declared.side_listing.SideListing.{SideListing}
use Rattle.tib_key_edges.specs.SideRules.{side_reading}

-- a list of edges to right-hand sides
abbrev pub ForwardListing : Type 0
ForwardListing = SideListing (ℕ × ℕ × ℕ) (Pair ℕ)

-- how rules over places and over positions are read as edges
abbrev pub forward_reading : Reading (ℕ × ℕ × ℕ) (Rule (ℕ × ℕ × ℕ)) (SideRule (Pair ℕ)) (Rule ℕ)
forward_reading = side_reading (ℕ × ℕ × ℕ) (Pair ℕ)
