-- `compose`: the transducer that does what the first and then the second does.
use Rattle.tib_cost.specs.declared.Scale.{Scale}
use Rattle.std.specs.Prelude.{◌≡◌, ℕ, List, true, false}
use Rattle.tib_expand.specs.Reached.{IsBeyond}
use Rattle.tib_transducer.specs.TransducerOf.{TransducerOf}
use Rattle.tib_transducer.specs.Outside.{Demands, demands}
use Rattle.tib_canon.specs.Constructions.{HasReachedWithin}
use Rattle.tib_key_edges.specs.Composition.{composition}
pub use Rattle.tib_canon.specs.Composing.{composing, HasComposeSeries, HasComposeText}
use Rattle.tib_operations.specs.Classes.{Demanded, demanded_of}
use Rattle.tib_operations.specs.Made.{Made}

-- the second transducer is to be linear, nondeleting, not extended and not labelled
abbrev pub plain : Demands
plain = demands true true true true false

abbrev pub compose_demands : TransducerOf → Demanded
compose_demands u = demanded_of 2 plain u.rules

-- the text is that of this canonical transducer
abbrev pub IsComposeText : Scale → (ℕ → ℕ → ℕ) → ℕ → List (List ℕ) → TransducerOf → TransducerOf → List ℕ → TransducerOf → Type 0
IsComposeText scale product limit labels t u text h = (d : HasComposeText scale product limit labels t u text) × (d.h ≡ h)

-- the reached set of the pairs of states; no normal form is made
abbrev pub compose_makes : (ℕ → ℕ → ℕ) → ℕ → TransducerOf → TransducerOf → Made
compose_makes product limit t u = record {
  within = HasReachedWithin (composition product t.rules u.rules) limit;
  more = IsBeyond (composition product t.rules u.rules) limit;
}
