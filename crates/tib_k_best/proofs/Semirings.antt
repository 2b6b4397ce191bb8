-- Semirings whose product is not the greater factor.
use Rattle.std.specs.Prelude.{◌≡◌, ℕ, Bool, true, false, List, refl}
use Rattle.tib_grammar.specs.declared.Rule.{Rule}
use Rattle.tib_k_best.specs.Causes.{IsLevelCause, IsUsefulCause}
use Rattle.tib_k_best.specs.declared.error.KBestError.{KBestError}
use Rattle.tib_k_best.specs.declared.error.KBestError.TheVariants.{TreeTooLarge, OutOfMemory}

-- an error of the grammar is one of its only level
pub flat_cause :
    (levelled : Bool) (product : ℕ → ℕ → ℕ) (labels : List (List ℕ)) (rules : List (Rule ℕ)) (k : ℕ) → levelled ≡ false → (e : KBestError) → IsUsefulCause product labels rules k e →
    IsLevelCause levelled product labels rules k e
flat_cause false product labels rules k flat (TreeTooLarge q) l = (rules, refl, l.0, l.1)
flat_cause true product labels rules k flat (TreeTooLarge q) l = absurd (cc)
flat_cause levelled product labels rules k flat OutOfMemory l = tt
