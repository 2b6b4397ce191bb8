use Rattle.std.proofs.Common.{◌+◌, ◌*◌, arith, refl}
use Rattle.tib_expand.proofs.EdgeLemmas.{Lists-one, Lists-some}
use Rattle.tib_hunt_tests.proofs.strands.StrandsExpand.expand.Goals as goal

pub returns-then-budget-eq0-clause-more : goal.returns-then-budget-eq0-clause-more
returns-then-budget-eq0-clause-more c = λ _ es l.
    let low = c.if-n-self.false in
    let m = Lists-some _ (λ _. 1) 0 (record { number = c.args.self.now.times * c.args.n + 1 }, record { number = c.args.self.now.times * c.args.n + 2 }) (omega arith, refl, refl) (λ f. omega arith) es l in
    let z = c.if-budget-eq0.true in
    omega arith

pub returns-in-Ok-clause-listed : goal.returns-in-Ok-clause-listed
returns-in-Ok-clause-listed c =
    let low = c.if-n-self.false in
    rw (c.in-Ok.ensures.ends, c.in-Ok.ensures.rules, c.in-Ok.ensures.parts) (record {
      few = omega arith;
      within = ((omega arith, (omega arith, tt)), tt);
      edges = λ d. Lists-one _ 0 (record { number = c.args.self.now.times * c.args.n + 1 }, record { number = c.args.self.now.times * c.args.n + 2 }) (omega arith, refl, refl) (λ x f h. h.1);
      counted = λ d. refl;
    })
