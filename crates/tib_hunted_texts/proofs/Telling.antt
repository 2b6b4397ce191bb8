-- What a hunt that returned nothing says.
use Rattle.std.specs.Prelude.{◌≡◌, ℕ, List}
use Rattle.std.proofs.Common.{subst}
use Rattle.tib_expand.specs.Reached.{IsBeyond}
use Rattle.tib_transducer.specs.declared.error.ClassFault.{ClassFault}
use Rattle.tib_strings.specs.Faults.{IsFirstFault}
use Rattle.tib_strings.specs.Range.{AreLinear, AreNondeleting}
use Rattle.tib_strings.specs.declared.StringRule.{StringRule}
use Rattle.tib_apply.specs.declared.error.ApplyError.{ApplyError}
use Rattle.tib_apply.specs.declared.error.ApplyError.TheVariants.{Class, TooMany}
use Rattle.tib_image.specs.ParseOperation.{parse}
use Rattle.tib_image.specs.ParseAnswered.{IsParseFault}

module _ (moves : List (StringRule ℕ)) (string : List ℕ) (limit : ℕ) (error : ApplyError) where
  pub told_class : (rule : ℕ) (fault : ClassFault) → error ≡ Class rule fault → IsParseFault moves string limit error → IsFirstFault moves rule fault
  told_class rule fault is h = subst (IsParseFault moves string limit) is h

  pub told_many : (n : ℕ) → error ≡ TooMany n → IsParseFault moves string limit error → (n ≡ limit) × AreLinear moves × AreNondeleting moves × IsBeyond (parse moves string) limit
  told_many n is h = subst (IsParseFault moves string limit) is h
