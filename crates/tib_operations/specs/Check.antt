-- `check`: the classes of a transducer.
use Rattle.std.specs.Prelude.{◌≡◌, ◌<◌, ℕ, List, [], ◌++◌, length, Option, Some, None, codes, decimal}
use Rattle.tib_transducer.specs.Rules.{transducer_rule}
use Rattle.tib_transducer.specs.Classes.{IsLinear, IsNondeleting, IsExtended, IsLabelled}
use Rattle.tib_transducer.specs.TransducerOf.{TransducerOf}
use Rattle.tib_transducer.specs.declared.TransducerRule.{TransducerRule}
use Rattle.tib_transducer.specs.Outside.{IsFirst}
use Rattle.tib_operations.specs.Made.{Made, nothing}

-- the number of the first rule of which it holds, from 1 on, and none where it holds of no rule
abbrev pub IsFirstSuch : (TransducerRule ℕ → Type 0) → List (TransducerRule ℕ) → Option ℕ → Type 0
IsFirstSuch Holds rules None = (n : ℕ) → n < length rules → Holds (transducer_rule rules n) → ⊥
IsFirstSuch Holds rules (Some number) = IsFirst Holds (λ r. Holds r → ⊥) rules number

-- the line of a class: one text where no rule decides, and else another with the first rule that
-- does
abbrev pub class_line : List ℕ → List ℕ → Option ℕ → List ℕ
class_line none some None = none
class_line none some (Some rule) = some ++ decimal rule ++ codes "\n"

-- the lines of the classes, by the first rule that is not linear, that is not nondeleting, that is
-- extended, and that is labelled; whether a rule is labelled is said only where one is
abbrev pub class_lines : Option ℕ → Option ℕ → Option ℕ → Option ℕ → List ℕ
class_lines not_linear not_nondeleting extended labelled =
    class_line (codes "linear yes\n") (codes "linear no ") not_linear
    ++ (class_line (codes "nondeleting yes\n") (codes "nondeleting no ") not_nondeleting
    ++ (class_line (codes "extended no\n") (codes "extended yes ") extended
    ++ class_line [] (codes "labelled yes ") labelled))

-- The text says of each class whether the transducer is of it, and which rule decides.
pub record HasClasses (t : TransducerOf) (text : List ℕ) : Type 0 where
  pub not_linear : Option ℕ
  pub not_nondeleting : Option ℕ
  pub extended : Option ℕ
  pub labelled : Option ℕ
  pub first_not_linear : IsFirstSuch (λ r. IsLinear r → ⊥) t.rules not_linear
  pub first_not_nondeleting : IsFirstSuch (λ r. IsNondeleting r → ⊥) t.rules not_nondeleting
  pub first_extended : IsFirstSuch IsExtended t.rules extended
  pub first_labelled : IsFirstSuch IsLabelled t.rules labelled
  pub are : text ≡ class_lines not_linear not_nondeleting extended labelled

-- nothing with parts is made
abbrev pub check_makes : Made
check_makes = nothing
