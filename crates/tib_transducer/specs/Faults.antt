-- Why an operation does not take a transducer.
use Rattle.std.specs.Prelude.{ℕ, List}
use Rattle.tib_transducer.specs.declared.TransducerRule.{TransducerRule}
use Rattle.tib_transducer.specs.Outside.{Demands, IsFirstOutside}
use Rattle.tib_transducer.specs.declared.error.ClassError.{ClassError}
use Rattle.tib_transducer.specs.declared.error.ClassError.TheVariants.{Class, OutOfMemory}

-- names the first rule outside the classes that are demanded, or says that memory was refused
abbrev pub IsClassFault : Demands → List (TransducerRule ℕ) → ClassError → Type 0
IsClassFault demanded rules (Class rule fault) = IsFirstOutside demanded rules (rule, fault)
IsClassFault demanded rules OutOfMemory = Unit {0}
