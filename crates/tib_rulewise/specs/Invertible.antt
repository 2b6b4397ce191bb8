-- The rules that have an inverse.
use Rattle.std.specs.Prelude.{ℕ, List, true, false}
use Rattle.tib_transducer.specs.Outside.{Demands, demands, Meets, AllMeet}
use Rattle.tib_transducer.specs.declared.TransducerRule.{TransducerRule}

-- the classes that an inverse demands: linear, nondeleting, not labelled and strict
abbrev pub inverse_demands : Demands
inverse_demands = demands true true false true true

-- a rule that has an inverse is of these classes
abbrev pub IsInvertible : TransducerRule ℕ → Type 0
IsInvertible r = Meets inverse_demands r

-- each rule has an inverse
abbrev pub AreInvertible : List (TransducerRule ℕ) → Type 0
AreInvertible rules = AllMeet inverse_demands rules
