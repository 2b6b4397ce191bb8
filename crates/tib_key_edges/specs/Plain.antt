-- What composition requires of the second transducer.
use Rattle.std.specs.Prelude.{ℕ, ◌<◌, List, length}
use Rattle.tib_transducer.specs.Rules.{transducer_rule}
use Rattle.tib_transducer.specs.Classes.{IsLinear, IsNondeleting, IsExtended, IsLabelled}
use Rattle.tib_transducer.specs.declared.TransducerRule.{TransducerRule}

-- a rule is linear, nondeleting, not extended and not labelled
pub record IsPlain {P : Type 0} (r : TransducerRule P) : Type 0 where
  pub linear : IsLinear r
  pub nondeleting : IsNondeleting r
  pub one_label : IsExtended r → ⊥
  pub unlabelled : IsLabelled r → ⊥

-- each rule is
abbrev pub ArePlain : List (TransducerRule ℕ) → Type 0
ArePlain rules = (n : ℕ) → n < length rules → IsPlain (transducer_rule rules n)
