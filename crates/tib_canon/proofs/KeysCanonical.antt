-- The canonical form over keys, from that of the rules over them.
use Rattle.tib_cost.specs.declared.Scale.{Scale}
use Rattle.std.proofs.Common.{◌≡◌, ℕ, List, [], length, suc, sym, ap, ◌∙◌, refl}
use Rattle.std.specs.Option.{option_cmp}
use Rattle.std.specs.declared.cmp.Ordering.{Ordering}
use Rattle.tib_grammar.specs.declared.Rule.{Rule}
use Rattle.tib_canon.specs.Canonical.{names_of, OverStates, IsCanonical}
use Rattle.tib_canon.specs.Keys.{IsOverKeys, IsCanonicalOverKeys, behind_fresh, started_rules}
use Rattle.tib_canon.specs.declared.begin.Begin.TheVariants.{At, Fresh, Empty}
use Rattle.tib_grammar.specs.GrammarOf.{GrammarOf}
use Rattle.tib_canon.proofs.BehindFresh.{behind_long}
use Rattle.tib_canon.proofs.StateNames.{length-names_of}
use Rattle.tib_grammar.specs.Series.{HasSameSeries}

module _ {K : Type 0} (product : ℕ → ℕ → ℕ) (scale : Scale) (labels : List (List ℕ)) (cmp : K → K → Ordering) (order : List K) (rules : List (Rule ℕ)) (h : GrammarOf) where
  pub at_key :
      (start count : ℕ) (new : List (Rule ℕ)) → IsOverKeys cmp order rules start (record { names = names_of (length order); rules = new }) → count ≡ length order → OverStates count new (λ g. IsCanonical product scale labels g h) →
      OverStates count new (λ g. HasSameSeries product g h) → IsCanonicalOverKeys product scale labels cmp order rules (At start) h
  at_key start count new o counted c s =
      let long : length (names_of (length order)) ≡ count = length-names_of (length order) ∙ sym counted in
      record { over = record { names = names_of (length order); rules = new }; begun = o; canonical = c (names_of (length order)) long; series = s (names_of (length order)) long }

  pub at_fresh :
      (finals : List (ℕ × ℕ)) (count : ℕ) (new : List (Rule ℕ)) → IsOverKeys (option_cmp cmp) (behind_fresh order) (started_rules finals rules) 0 (record { names = names_of (length (behind_fresh order)); rules = new }) → count ≡ suc (length order) →
      OverStates count new (λ g. IsCanonical product scale labels g h) → OverStates count new (λ g. HasSameSeries product g h) → IsCanonicalOverKeys product scale labels cmp order rules (Fresh finals) h
  at_fresh finals count new o counted c s =
      let names : List (List ℕ) = names_of (length (behind_fresh order)) in
      let long : length names ≡ count = length-names_of (length (behind_fresh order)) ∙ behind_long order ∙ sym counted in
      record { over = record { names = names; rules = new }; begun = o; canonical = c names long; series = s names long }

  pub at_none : (none : List (Rule ℕ)) → none ≡ [] → OverStates 1 none (λ g. IsCanonical product scale labels g h) → OverStates 1 none (λ g. HasSameSeries product g h) → IsCanonicalOverKeys product scale labels cmp order rules Empty h
  at_none none e c s = record {
    over = record { names = names_of 1; rules = none };
    begun = ap (λ (rs : List (Rule ℕ)). record { names = names_of 1; rules = rs }) e;
    canonical = c (names_of 1) refl;
    series = s (names_of 1) refl;
  }
