use Rattle.std.proofs.Common.{ℕ, ◌<◌, get_or}
use Rattle.tib_match.specs.Searching.{IsNarrow, no_span}
use Rattle.tib_match.proofs.searching.first_wide.Given as goal

abbrev pub invariant-loop-place : goal.invariant-loop-place
invariant-loop-place l = (i : ℕ) → i < l.place → IsNarrow (get_or l.spans i no_span)
