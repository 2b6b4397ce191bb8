-- The classes that operations demand of transducers.
use Rattle.std.specs.Prelude.{◌≡◌, ℕ, List}
use Rattle.tib_transducer.specs.declared.TransducerRule.{TransducerRule}
use Rattle.tib_transducer.specs.Outside.{Demands, AllMeet, IsFirstOutside}
use Rattle.tib_transducer.specs.declared.error.ClassFault.{ClassFault}
use Rattle.tib_operations.specs.declared.status.Status.{Status}
use Rattle.tib_operations.specs.declared.status.Status.TheVariants as statuses

-- What is demanded of the files: that it is met, and that in the file with this number, counted
-- from 1, the rule with this number, counted from 1, is the first that breaks it, by this fault.
pub record Demanded : Type 1 where
  pub met : Type 0
  pub broken : ℕ → ℕ × ClassFault → Type 0

-- nothing is demanded
abbrev pub nothing_demanded : Demanded
nothing_demanded = record { met = Unit {0}; broken = λ n found. ⊥ }

-- classes are demanded of the transducer of a file
abbrev pub demanded_of : ℕ → Demands → List (TransducerRule ℕ) → Demanded
demanded_of file classes rules = record {
  met = AllMeet classes rules;
  broken = λ n found. (file ≡ n) × IsFirstOutside classes rules found;
}

-- each rule is of the classes that are demanded
abbrev pub IsMet : Demanded → Type 0
IsMet d = d.met

-- this is the first rule of the file that is not, with the first class that it breaks
abbrev pub IsBroken : Demanded → ℕ → ℕ × ClassFault → Type 0
IsBroken d file found = d.broken file found

-- the fault that a class is broken
abbrev pub IsClassFault : Demanded → Status → Type 0
IsClassFault demanded (statuses.Class file rule fault) = demanded.broken file (rule, fault)
IsClassFault demanded status = ⊥
