use Rattle.std.proofs.Common.{rules, ◌≡◌, ◌++◌, [], sym, ap, ◌∙◌, None, append-nil, List, ℕ}
use Rattle.std.specs.Vec.Iter.{into_iter_items}
use Rattle.tib_determinize.specs.Settling.{firsts}
use Rattle.tib_determinize.proofs.LeastCosts.{least_costs, none_left}
use Rattle.tib_determinize.proofs.settling.least_costs.Goals as goal

pub returns : goal.returns
returns c =
    let none : into_iter_items c.loop-state.state-iterator ≡ [] =
    (let short = c.in-None.ensures.steps.0 in let long = c.loop-state.state-iterator.rest.ok in none_left (into_iter_items c.loop-state.state-iterator) (search rules)) in
    let begun : into_iter_items c.into_iter-state-iterator.result ≡ c.sort.new.self.items = search rules in
    let all : c.loop-state.kept.items ≡ firsts None c.sort.new.self.items =
    sym (append-nil c.loop-state.kept.items) ∙ ap (λ (xs : List (ℕ × ℕ)). c.loop-state.kept.items ++ firsts c.loop-state.previous xs) (sym none) ∙ c.loop-state.invariant ∙ ap (firsts None) begun
    in
    least_costs c.args.costs.items c.sort.new.self.items c.loop-state.kept.items c.in_ok-sort.ensures.permutation c.in_ok-sort.ensures.sorted all
