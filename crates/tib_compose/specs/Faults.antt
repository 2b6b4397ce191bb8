-- Which error of a composition comes of an error of the test of classes, and of one of a hunt.
use Rattle.tib_expand.specs.declared.error.HuntError.TheVariants.{TooMany as OfParts, OutOfMemory as OfHuntMemory}
use Rattle.tib_expand.specs.declared.error.HuntError.{HuntError}
use Rattle.tib_transducer.specs.declared.error.ClassError.{ClassError}
use Rattle.tib_transducer.specs.declared.error.ClassError.TheVariants.{Class as OfRule, OutOfMemory as OfMemory}
use Rattle.tib_compose.specs.declared.error.ComposeError.{ComposeError}
use Rattle.tib_compose.specs.declared.error.ComposeError.TheVariants.{Class, TooMany, OutOfMemory}

-- a rule outside the classes is named, and out of memory stays
abbrev pub class_error : ClassError → ComposeError
class_error (OfRule rule fault) = Class rule fault
class_error OfMemory = OutOfMemory

-- too many parts are too many, and out of memory stays
abbrev pub hunt_error : HuntError → ComposeError
hunt_error (OfParts limit) = TooMany limit
hunt_error OfHuntMemory = OutOfMemory
