-- States that are sorted, each once.
use Rattle.std.specs.Prelude.{ℕ, ◌<◌, List, [], ◌∷◌, length}
use Rattle.std.proofs.Common.{arith, subst, Contains}
use Rattle.std.specs.List.Sorted.{IsStrictlyIncreasing}
use Rattle.std.proofs.lemmas.List.Kept.{AllPairs-from_increasing}
use Rattle.tib_lex.specs.Lists.{Has, Ascends}
use Rattle.tib_lex.proofs.Lists.{Ascends-from}
use Rattle.tib_lex.proofs.Members.{has_at, has_contains}
use Rattle.tib_difference.specs.Lefts.{IsSorting}

pub contains_has : (xs : List ℕ) (x : ℕ) → Contains xs x → Has xs x
contains_has xs x h = subst (λ (y : ℕ). Has xs y) h.2 (has_at xs h.0 x h.1)

pub ascends_of : (xs : List ℕ) → IsStrictlyIncreasing xs → Ascends ◌<◌ xs
ascends_of xs up = let pairs = AllPairs-from_increasing xs up in Ascends-from ◌<◌ xs 0 (λ i j low high. pairs i j 0 low high)

pub sorting_of :
    (old new : List ℕ) → IsStrictlyIncreasing new → ((x : ℕ) → Contains old x → Contains new x) → ((x : ℕ) → Contains new x → Contains old x) → IsSorting old new
sorting_of old new up to from = record {
  ascends = ascends_of new up;
  to = λ q h. contains_has new q (to q (has_contains old q h));
  from = λ q h. contains_has old q (from q (has_contains new q h));
}

-- fewer than two states are sorted
pub sorting_few : (xs : List ℕ) → length xs < 2 → IsSorting xs xs
sorting_few [] few = record { ascends = tt; to = λ q h. h; from = λ q h. h }
sorting_few (x ∷ []) few = record { ascends = (tt, tt); to = λ q h. h; from = λ q h. h }
sorting_few (x ∷ (y ∷ xs)) few = absurd (omega (arith, few))
