-- What the demanded classes of the second transducer give.
use Rattle.std.specs.Prelude.{ℕ, List, true, refl, false}
use Rattle.tib_grammar.proofs.Below.{below_has}
use Rattle.tib_transducer.specs.Rules.{transducer_rule, states_in}
use Rattle.tib_transducer.specs.Range.{AreShaped, AreWithin}
use Rattle.tib_transducer.specs.declared.TransducerRule.{TransducerRule}
use Rattle.tib_transducer.specs.Outside.{demands, AllMeet}
use Rattle.tib_key_edges.specs.Plain.{ArePlain}
use Rattle.tib_key_edges.proofs.Translating.{is_over}
use Rattle.tib_compose.specs.Readers.{AreFlat}
use Rattle.tib_compose.specs.EdgeLaws.{StatesBelow}

-- rules of all four classes are plain
pub plain_from : (rules : List (TransducerRule ℕ)) → AllMeet (demands true true true true false) rules → ArePlain rules
plain_from rules all n h = record {
  linear = (all n h).linear refl;
  nondeleting = (all n h).nondeleting refl;
  one_label = (all n h).one_label refl;
  unlabelled = (all n h).unlabelled refl;
}

-- plain rules have one label over variables
pub flat_from : (rules : List (TransducerRule ℕ)) → AreShaped rules → AllMeet (demands true true true true false) rules → AreFlat rules
flat_from rules shaped all n h =
    let over = is_over rules shaped (plain_from rules all) n h in
    record { root = over.0; is_root = over.1.root; variables = over.1.variables }

-- states in range, stated by functions
pub below_from : (n : ℕ) (rules : List (TransducerRule ℕ)) → AreWithin n rules → StatesBelow n rules
below_from n rules w = (λ m h. (w m h).0, λ m q h has. below_has n (states_in (transducer_rule rules m).right) q (w m h).1 has)
