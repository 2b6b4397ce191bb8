-- Why a rule is not in the class that parsing takes.
use Rattle.std.specs.Prelude.{ℕ, ◌-◌, ◌<◌, ◌≤◌, List, [], ◌∷◌, length}
use Rattle.tib_lex.specs.Lists.{Has}
use Rattle.tib_transducer.specs.declared.Variable.{Variable}
use Rattle.tib_strings.specs.Rules.{string_rule}
use Rattle.tib_strings.specs.Range.{IsLinear, IsNondeleting}
use Rattle.tib_strings.specs.declared.StringRule.{StringRule}
use Rattle.tib_transducer.specs.declared.error.ClassFault.{ClassFault}
use Rattle.tib_transducer.specs.declared.error.ClassFault.TheVariants.{NotLinear, NotNondeleting, Extended, Labelled, NotStrict}

-- the number of each variable is among some
abbrev pub AreAmong : List ℕ → List Variable → Type 0
AreAmong numbers [] = Unit {0}
AreAmong numbers (x ∷ xs) = Has numbers x.number × AreAmong numbers xs

-- the rule has the fault, and no earlier one; the other faults are none to tree-to-string
-- transducers
abbrev pub HasFault : ClassFault → StringRule ℕ → Type 0
HasFault NotLinear r = IsLinear r → ⊥
HasFault NotNondeleting r = IsLinear r × (IsNondeleting r → ⊥)
HasFault Extended r = ⊥
HasFault Labelled r = ⊥
HasFault NotStrict r = ⊥

-- the rule with the number n, from 1, has the fault, and the rules before it are linear and
-- nondeleting
pub record IsFirstFault (rules : List (StringRule ℕ)) (n : ℕ) (fault : ClassFault) : Type 0 where
  pub from : 1 ≤ n
  pub to : n ≤ length rules
  pub has : HasFault fault (string_rule rules (n - 1))
  pub linear : (m : ℕ) → m < n - 1 → IsLinear (string_rule rules m)
  pub nondeleting : (m : ℕ) → m < n - 1 → IsNondeleting (string_rule rules m)
