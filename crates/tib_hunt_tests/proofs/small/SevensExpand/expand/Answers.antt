use Rattle.std.proofs.Common.{arith, refl}
use Rattle.tib_expand.proofs.EdgeLemmas.{Lists-one, Lists-some}
use Rattle.tib_hunt_tests.proofs.small.SevensExpand.expand.Goals as goal

pub returns-then-budget-eq0-clause-more : goal.returns-then-budget-eq0-clause-more
returns-then-budget-eq0-clause-more c = λ _ es l. let m = Lists-some _ (λ _. 1) 0 (record { number = 7 }) (refl, refl) (λ f. omega arith) es l in let z = c.if-budget-eq0.true in omega arith

pub returns-clause-listed : goal.returns-clause-listed
returns-clause-listed c =
    rw (c.in-Ok.ensures.items, c.in-Ok-from_array.ensures.items) (record {
      few = omega arith;
      within = ((omega arith, tt), tt);
      edges = λ d. Lists-one _ 0 (record { number = 7 }) (refl, refl) (λ x f h. h.0);
      counted = λ d. refl;
    })
