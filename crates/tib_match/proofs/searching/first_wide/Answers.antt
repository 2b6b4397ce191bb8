use Rattle.std.proofs.Common.{get_or, arith, subst, sym, refl, inl, inr}
use Rattle.tib_lex.proofs.Numbers.{below_cases}
use Rattle.tib_match.specs.Searching.{IsNarrow, no_span}
use Rattle.tib_match.proofs.searching.first_wide.Goals as goal

pub loop-place-init : goal.loop-place-init
loop-place-init c = λ i b. absurd (omega (arith, b))

pub returns-then-is_wide : goal.returns-then-is_wide
returns-then-is_wide c = record { inside = c.loop-place-test.true; wide = c.if-is_wide.ensures.yes refl; before = c.loop-place.invariant }

pub loop-place-preserved : goal.loop-place-preserved
loop-place-preserved c = λ i b. elim (below_cases i c.loop-place.place b) [
  | inl k ↦ c.loop-place.invariant i k
  | inr e ↦ subst (λ j. IsNarrow (get_or c.args.spans.now j no_span)) (sym e) (c.if-is_wide.ensures.no refl)
]

pub returns : goal.returns
returns c = λ i b. c.loop-place.invariant i (omega (arith, b, c.loop-place-test.false))
