-- The search at its next cut.
use Rattle.std.specs.Prelude.{◌≡◌, ℕ, List, Bool, true, false, refl}
use Rattle.std.specs.Global.{Vec}
use Rattle.std.proofs.Common.{arith, ◌∙◌}
use Rattle.tib_strings.specs.Stacks.{back, to_come}
use Rattle.tib_strings.specs.Search.{left_of, Finds}
use Rattle.tib_strings.specs.Remaining.{IsSearch, GoesTo}
use Rattle.tib_strings.specs.declared.search.Cuts.{Cuts}

pub goes_to :
    (old : Cuts) (places : Vec ℕ) (mid : List ℕ) → IsSearch old →
    left_of old.string.now old.tokens.now old.from old.to old.begun old.places.items ≡ to_come old.string.now old.tokens.now old.from old.to (back mid) → (r : Bool) →
    Finds old.string.now old.tokens.now old.from old.to mid places.items r →
    GoesTo old (record { string = old.string; tokens = old.tokens; from = old.from; to = old.to; bounds = old.bounds; places = places; begun = true }) r
goes_to old places mid s e true f = (record { few = s.few; bounded = s.bounded; room = omega (arith, f.0) }, e ∙ f.1, f.0, refl)
goes_to old places mid s e false f = e ∙ f
