use Rattle.std.specs.Prelude.{ℕ, List, length}
use Rattle.std.proofs.Common.{arith, subst}
use Rattle.tib_k_best.specs.Weights.{AreNumbered}
use Rattle.tib_k_best.proofs.Reading.{flat_is, flat_ranked}
use Rattle.tib_k_best.proofs.any_grammar.in_order.Goals as goal

pub returns-clause-ranked : goal.returns-clause-ranked
returns-clause-ranked c = λ at.
    flat_ranked c.args.list.now c.in_ok-costs.costs.items c.in_ok-costs.ensures.long c.in_ok-costs.ensures.each c.in_ok-first.first.items
    (subst (λ (ws : List ℕ). AreNumbered ws (length ws) c.in_ok-first.first.items) c.deref.ensures.value c.in_ok-first.ensures) at (omega (arith, c.len.ensures, c.len.type_inv))

pub returns-clause-same : goal.returns-clause-same
returns-clause-same c =
    flat_is c.args.list.now c.in_ok-costs.costs.items c.in_ok-costs.ensures.long c.in_ok-costs.ensures.each c.in_ok-first.first.items
    (subst (λ (ws : List ℕ). AreNumbered ws (length ws) c.in_ok-first.first.items) c.deref.ensures.value c.in_ok-first.ensures)
