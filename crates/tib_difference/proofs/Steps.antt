-- Steps of lists of edges that are underway.
use Rattle.std.specs.Prelude.{◌≡◌, ℕ, List, [], ◌++◌, refl}
use Rattle.std.proofs.Common.{ap, sym, ◌∙◌, subst, append_assoc}
use Rattle.tib_lex.proofs.Lists.{append_nil}
use Rattle.tib_grammar.specs.declared.Rule.{Rule}
use Rattle.tib_difference.specs.declared.listing.KeyListing.{KeyListing}
use Rattle.tib_difference.specs.Difference.{KeyOf}
use Rattle.tib_difference.specs.Listing.{Adds, Overruns}
use Rattle.tib_difference.specs.Underway.{IsUnderway}
use Rattle.tib_difference.proofs.Adding.{adds_none, adds_both, overruns_after}

module _ (one two : List (Rule ℕ)) (order : List KeyOf) (all : List (ℕ × List ℕ)) where
  -- all remain
  pub underway_begin : (l : KeyListing) → IsUnderway one two order all all l l
  underway_begin l = record { done = []; adds = adds_none one two order l; are = refl }

  -- the next ones are added
  pub underway_next :
      (os rest more : List (ℕ × List ℕ)) (old now new : KeyListing) → IsUnderway one two order all rest old now → rest ≡ os ++ more → Adds one two order os now new →
      IsUnderway one two order all more old new
  underway_next os rest more old now new h e a = record {
    done = h.done ++ os;
    adds = adds_both one two order h.done os old now new h.adds a;
    are = append_assoc h.done os more ∙ ap (λ (zs : List (ℕ × List ℕ)). h.done ++ zs) (sym e) ∙ h.are;
  }

  -- the next ones have too many parts
  pub underway_over :
      (os rest more : List (ℕ × List ℕ)) (old now : KeyListing) → IsUnderway one two order all rest old now → rest ≡ os ++ more → now.budget ≡ old.budget → Overruns one two order os now →
      Overruns one two order all old
  underway_over os rest more old now h e same o =
      subst (λ (zs : List (ℕ × List ℕ)). Overruns one two order zs old) (ap (λ (zs : List (ℕ × List ℕ)). h.done ++ zs) (sym e) ∙ h.are) (overruns_after one two order h.done os more old now same h.adds o)

  -- none remain
  pub underway_end : (rest : List (ℕ × List ℕ)) (old new : KeyListing) → rest ≡ [] → IsUnderway one two order all rest old new → Adds one two order all old new
  underway_end rest old new e h =
      subst (λ (zs : List (ℕ × List ℕ)). Adds one two order zs old new) (sym (append_nil h.done) ∙ ap (λ (zs : List (ℕ × List ℕ)). h.done ++ zs) (sym e) ∙ h.are) h.adds
