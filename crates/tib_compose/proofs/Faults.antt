-- Why a composition returns nothing, by the error of the test of classes or of the hunt.
use Rattle.std.specs.Prelude.{ℕ, List, true, false}
use Rattle.tib_expand.specs.Limits.{IfTooMany}
use Rattle.tib_expand.specs.declared.error.HuntError.TheVariants.{TooMany as OfParts, OutOfMemory as OfHuntMemory}
use Rattle.tib_expand.specs.declared.error.HuntError.{HuntError}
use Rattle.tib_transducer.specs.declared.TransducerRule.{TransducerRule}
use Rattle.tib_transducer.specs.Outside.{demands, AllMeet}
use Rattle.tib_transducer.specs.Faults.{IsClassFault}
use Rattle.tib_transducer.specs.declared.error.ClassError.{ClassError}
use Rattle.tib_transducer.specs.declared.error.ClassError.TheVariants.{Class as OfRule, OutOfMemory as OfMemory}
use Rattle.tib_compose.specs.Composed.{IsComposeFault}
use Rattle.tib_compose.specs.Faults.{class_error, hunt_error}

-- the first rule outside the classes is named
pub class_fault : (two : List (TransducerRule ℕ)) (limit : ℕ) (Beyond : Type 0) (e : ClassError) → IsClassFault (demands true true true true false) two e → IsComposeFault two limit Beyond (class_error e)
class_fault two limit Beyond (OfRule rule fault) h = h
class_fault two limit Beyond OfMemory h = h

-- that there are too many parts is reported where each rule is of the demanded classes, with what
-- follows from what a hunt promises of it
pub hunt_fault :
    (two : List (TransducerRule ℕ)) (limit : ℕ) (Found Beyond : Type 0) →
    AllMeet (demands true true true true false) two → (Found → Beyond) → (e : HuntError) →
    IfTooMany limit Found e → IsComposeFault two limit Beyond (hunt_error e)
hunt_fault two limit Found Beyond met so (OfParts n) h = (h.0, met, so h.1)
hunt_fault two limit Found Beyond met so OfHuntMemory h = h
