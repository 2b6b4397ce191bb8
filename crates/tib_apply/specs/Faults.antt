-- Which error of an application comes of an error of the test of classes, and of one of a hunt.
use Rattle.tib_expand.specs.declared.error.HuntError.TheVariants.{TooMany as OfParts, OutOfMemory as OfHuntMemory}
use Rattle.tib_expand.specs.declared.error.HuntError.{HuntError}
use Rattle.tib_transducer.specs.declared.error.ClassError.{ClassError}
use Rattle.tib_transducer.specs.declared.error.ClassError.TheVariants.{Class as OfRule, OutOfMemory as OfMemory}
use Rattle.tib_apply.specs.declared.error.ApplyError.{ApplyError}
use Rattle.tib_apply.specs.declared.error.ApplyError.TheVariants.{Class, TooMany, OutOfMemory}

-- a rule outside the classes is named, and out of memory stays
abbrev pub class_error : ClassError → ApplyError
class_error (OfRule rule fault) = Class rule fault
class_error OfMemory = OutOfMemory

-- too many parts are too many, and out of memory stays
abbrev pub hunt_error : HuntError → ApplyError
hunt_error (OfParts limit) = TooMany limit
hunt_error OfHuntMemory = OutOfMemory
