-- What is wrong with bytes that are no tree-to-string transducer's text, in the words of the
-- format.
use Rattle.tib_cost.specs.declared.Scale.{Scale}
use Rattle.std.specs.Prelude.{ℕ, List}
use Rattle.tib_lex.specs.declared.fault.FileFault.{FileFault}
use Rattle.tib_lex.specs.declared.fault.ReadError.{ReadError}
use Rattle.tib_transducer_file.specs.Faults.{IsFirstFaultBy, IsCauseBy}
use Rattle.tib_strings.specs.Listed.{SpellsList}

-- the first fault of the file, with a list on the right of each rule
abbrev pub IsFirstFault : Scale → List ℕ → FileFault → Type 0
IsFirstFault scale bytes fault = IsFirstFaultBy SpellsList scale bytes fault

-- a fault is the first of the file
abbrev pub IsCause : Scale → List ℕ → ReadError → Type 0
IsCause scale bytes error = IsCauseBy SpellsList scale bytes error
