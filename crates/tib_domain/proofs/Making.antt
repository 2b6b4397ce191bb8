-- What the steps of the transducer of the domain give, put together.
use Rattle.std.specs.Prelude.{◌≡◌, ℕ, ◌+◌, ◌<◌, List, length, Bool}
use Rattle.std.proofs.Common.{ap, sym, ◌∙◌, subst}
use Rattle.tib_cost.specs.Semiring.{ProductLaws}
use Rattle.tib_transducer.specs.Classes.{AreLinear}
use Rattle.tib_transducer.specs.Range.{AreShaped, AreWithin}
use Rattle.tib_transducer.specs.TransducerOf.{TransducerOf}
use Rattle.tib_strings.specs.Range.{AreWithin as AreWithinOnStrings, AreShaped as AreShapedOnStrings, AreLinear as AreLinearOnStrings, AreNondeleting}
use Rattle.tib_strings.specs.StringTransducerOf.{StringTransducerOf}
use Rattle.tib_strings.specs.declared.StringRule.{StringRule}
use Rattle.tib_canon.specs.Canonical.{names_of}
use Rattle.tib_domain.specs.Domain.{HasDomainSeries}
use Rattle.tib_domain.specs.Reading.{domain_rules, domain_of}
use Rattle.tib_domain.proofs.Series.{domain_is_read, moves_within, moves_shaped, moves_linear, moves_nondeleting}

module _ (t : TransducerOf) (any : ℕ) (moves : List (StringRule ℕ)) (at_any : any ≡ length t.names) (all_moves : moves ≡ domain_rules any t.rules) where
  module _ (within : AreWithin (length t.names) t.rules) (shaped : AreShaped t.rules) where
    low : AreWithin any t.rules
    low = subst (λ (n : ℕ). AreWithin n t.rules) (sym at_any) within

    pub all_within : AreWithinOnStrings (any + 1) moves
    all_within = subst (AreWithinOnStrings (any + 1)) (sym all_moves) (moves_within any t.rules low shaped)

    pub all_shaped : AreShapedOnStrings moves
    all_shaped = subst AreShapedOnStrings (sym all_moves) (moves_shaped any t.rules low shaped)

    pub are_linear : AreLinear t.rules → (d : StringTransducerOf) → d.rules ≡ moves → AreLinearOnStrings d.rules
    are_linear linear d e = subst AreLinearOnStrings (sym (e ∙ all_moves)) (moves_linear any t.rules low shaped linear)

    pub are_nondeleting : (d : StringTransducerOf) → d.rules ≡ moves → AreNondeleting d.rules
    are_nondeleting d e = subst AreNondeleting (sym (e ∙ all_moves)) (moves_nondeleting any t.rules low shaped)

    pub has_series :
        {levelled weighted : Bool} {product : ℕ → ℕ → ℕ} → ProductLaws levelled weighted product → 0 < length t.names → (d : StringTransducerOf) → d.rules ≡ moves → HasDomainSeries product t.rules d.rules
    has_series {product = product} laws some d e =
        subst (HasDomainSeries product t.rules) (sym (e ∙ all_moves)) (domain_is_read laws any t.rules (subst (λ (n : ℕ). 0 < n) (sym at_any) some) low shaped)

  pub is_domain : (d : StringTransducerOf) → d.names ≡ names_of (any + 1) → d.rules ≡ moves → d ≡ domain_of t
  is_domain d names e =
      ap (λ (ns : List (List ℕ)). record { names = ns; rules = d.rules }) (names ∙ ap (λ (n : ℕ). names_of (n + 1)) at_any)
      ∙ ap (λ (rs : List (StringRule ℕ)). record { names = names_of (length t.names + 1); rules = rs }) (e ∙ all_moves ∙ ap (λ (n : ℕ). domain_rules n t.rules) at_any)
