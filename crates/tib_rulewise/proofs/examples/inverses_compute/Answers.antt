use Rattle.std.specs.Prelude.{◌≡◌, ℕ, refl}
use Rattle.std.proofs.Common.{arith, inl, inr}
use Rattle.tib_grammar.specs.Sides.{Symbol, label, hole}
use Rattle.tib_transducer.specs.declared.Pair.{Pair}
use Rattle.tib_rulewise.proofs.examples.inverses_compute.Goals as goal

pub returns-clause-invertible : goal.returns-clause-invertible
returns-clause-invertible c = record {
  linear = λ _. (λ h. elim h [ inl e ↦ absurd (omega (arith, e)) | inr k ↦ k ], (λ h. h, tt));
  nondeleting = λ _. (inr (inl refl), (inl refl, tt));
  one_label = λ e _. absurd (cc);
  unlabelled = λ _ h. elim h.stands [
    | inl e ↦ absurd (cc (e, h.labelled))
    | inr k ↦ elim k [ inl e ↦ absurd (cc (e, h.labelled)) | inr z ↦ z ]
  ];
  strict = λ _. record { root = 3; is_root = refl };
}

pub returns-clause-lone : goal.returns-clause-lone
returns-clause-lone c h = no_label (h.strict refl).root (h.strict refl).is_root
  where
    no_label : (f : ℕ) → ◌≡◌ {A = Symbol ℕ (Pair ℕ)} (hole (record { state = 0; variable = 0 })) (label f) → ⊥
    no_label f e = absurd (cc)
