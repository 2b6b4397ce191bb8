-- The first rule of a transducer that decides its class, and the first that is outside demanded
-- classes.
use Rattle.std.specs.Prelude.{◌≡◌, ℕ, ◌<◌, List, length, Bool, IsTrue, Option, None, Some}
use Rattle.std.proofs.Common.{suc}
use Rattle.tib_transducer.specs.Rules.{transducer_rule}
use Rattle.tib_transducer.specs.Classes.{IsLinear, IsNondeleting, IsExtended, IsLabelled, IsStrict}
use Rattle.tib_transducer.specs.declared.TransducerRule.{TransducerRule}
use Rattle.tib_transducer.specs.declared.error.ClassFault.{ClassFault}
use Rattle.tib_transducer.specs.declared.error.ClassFault.TheVariants.{NotLinear, NotNondeleting, Extended, Labelled, NotStrict}

-- the rule with this number, counted from 1, is outside, and those before it are inside
pub record IsFirst (Outside Inside : TransducerRule ℕ → Type 0) (rules : List (TransducerRule ℕ))
    (number : ℕ) : Type 0 where
  pub position : ℕ
  pub numbered : number ≡ suc position
  pub below : position < length rules
  pub outside : Outside (transducer_rule rules position)
  pub before : (m : ℕ) → m < position → Inside (transducer_rule rules m)

-- which classes are demanded: linear, nondeleting, not extended, not labelled, strict
pub record Demands : Type 0 where
  pub linear : Bool
  pub nondeleting : Bool
  pub one_label : Bool
  pub unlabelled : Bool
  pub strict : Bool

abbrev pub demands : Bool → Bool → Bool → Bool → Bool → Demands
demands linear nondeleting one_label unlabelled strict = record {
  linear = linear;
  nondeleting = nondeleting;
  one_label = one_label;
  unlabelled = unlabelled;
  strict = strict;
}

-- a rule is of each class that is demanded
pub record Meets (d : Demands) (r : TransducerRule ℕ) : Type 0 where
  pub linear : IsTrue d.linear → IsLinear r
  pub nondeleting : IsTrue d.nondeleting → IsNondeleting r
  pub one_label : IsTrue d.one_label → IsExtended r → ⊥
  pub unlabelled : IsTrue d.unlabelled → IsLabelled r → ⊥
  pub strict : IsTrue d.strict → IsStrict r

-- each rule is
abbrev pub AllMeet : Demands → List (TransducerRule ℕ) → Type 0
AllMeet d rules = (n : ℕ) → n < length rules → Meets d (transducer_rule rules n)

-- The fault names the first class, in the order linear, nondeleting, not extended, not labelled,
-- strict, that is demanded and that the rule is outside of.
abbrev pub IsFaultOf : Demands → TransducerRule ℕ → ClassFault → Type 0
IsFaultOf d r NotLinear = IsTrue d.linear × (IsLinear r → ⊥)
IsFaultOf d r NotNondeleting =
    (IsTrue d.linear → IsLinear r)
    × IsTrue d.nondeleting
    × (IsNondeleting r → ⊥)
IsFaultOf d r Extended =
    (IsTrue d.linear → IsLinear r)
    × (IsTrue d.nondeleting → IsNondeleting r)
    × IsTrue d.one_label
    × IsExtended r
IsFaultOf d r Labelled =
    (IsTrue d.linear → IsLinear r)
    × (IsTrue d.nondeleting → IsNondeleting r)
    × (IsTrue d.one_label → IsExtended r → ⊥)
    × IsTrue d.unlabelled
    × IsLabelled r
IsFaultOf d r NotStrict =
    (IsTrue d.linear → IsLinear r)
    × (IsTrue d.nondeleting → IsNondeleting r)
    × (IsTrue d.one_label → IsExtended r → ⊥)
    × (IsTrue d.unlabelled → IsLabelled r → ⊥)
    × IsTrue d.strict
    × (IsStrict r → ⊥)

-- the number is that of the first rule outside the demanded classes, with its fault
abbrev pub IsFirstOutside : Demands → List (TransducerRule ℕ) → ℕ × ClassFault → Type 0
IsFirstOutside d rules found = IsFirst (λ r. IsFaultOf d r found.1) (Meets d) rules found.0

-- what is returned for one rule: its fault, or that it has none
abbrev pub IsAnswer : Demands → TransducerRule ℕ → Option ClassFault → Type 0
IsAnswer d r None = Meets d r
IsAnswer d r (Some fault) = IsFaultOf d r fault
