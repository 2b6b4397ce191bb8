use Rattle.std.proofs.Common.{rules, ◌≡◌, ◌≤◌, ℕ, List, None, Some, ap, sym, ◌∙◌, subst}
use Rattle.tib_lex.specs.Lists.{Each, Along}
use Rattle.tib_determinize.specs.Settling.{IsOver, IsLeastCost, AreResiduals, least_from}
use Rattle.tib_determinize.proofs.LeastCosts.{least_is, none_below}
use Rattle.tib_determinize.proofs.settling.settle.Goals as goal

pub returns-in_default-clause-none : goal.returns-in_default-clause-none
returns-in_default-clause-none g c =
    let none : c.least_cost.result ≡ None = search rules in
    least_is c.args.costs.items None (sym none ∙ c.least_cost.ensures ∙ ap (least_from None) c.deref.ensures.value)

pub residuals-requires : goal.residuals-requires
residuals-requires g c =
    let some : c.least_cost.result ≡ Some c.in-Some.cost = search rules in
    let least : IsLeastCost c.args.costs.items (Some c.in-Some.cost) = least_is c.args.costs.items (Some c.in-Some.cost) (sym some ∙ c.least_cost.ensures ∙ ap (least_from None) c.deref.ensures.value) in
    subst (λ (xs : List (ℕ × ℕ)). Each (λ x. c.in-Some.cost ≤ x.1) xs) (sym c.deref-2.ensures.value) (none_below c.args.costs.items c.in_ok-kept.kept.items c.in-Some.cost least c.in_ok-kept.ensures)

pub returns-clause-some : goal.returns-clause-some
returns-clause-some g c =
    let some : c.least_cost.result ≡ Some c.in-Some.cost = search rules in
    let least : IsLeastCost c.args.costs.items (Some c.in-Some.cost) = least_is c.args.costs.items (Some c.in-Some.cost) (sym some ∙ c.least_cost.ensures ∙ ap (least_from None) c.deref.ensures.value) in
    subst (AreResiduals g.S.Semiring.product c.args.costs.items c.in-Some.cost) (sym c.new.ensures) (record {
      least = least;
      kept = c.in_ok-kept.kept.items;
      are_least = c.in_ok-kept.ensures;
      over = subst (λ (xs : List (ℕ × ℕ)). Along (IsOver g.S.Semiring.product c.in-Some.cost) xs c.in_ok-over.over.items) c.deref-2.ensures.value c.in_ok-over.ensures;
    })
