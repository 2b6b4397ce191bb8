use Rattle.std.proofs.Common.{rules, ◌≡◌, [], refl, subst, sym, List}
use Rattle.std.specs.Vec.Iter.{into_iter_items}
use Rattle.tib_match.proofs.Kept.{IsKeptFrom, merged, none_left}
use Rattle.tib_match.specs.declared.partial.Partial.{Partial}
use Rattle.tib_match.proofs.merging.merge.Goals as goal

pub returns : goal.returns
returns c =
    let none : into_iter_items c.loop-partial.partial-iterator ≡ [] =
    (let short = c.in-None.ensures.steps.0 in let long = c.loop-partial.partial-iterator.rest.ok in none_left (into_iter_items c.loop-partial.partial-iterator) (search rules)) in
    let begun : into_iter_items c.into_iter-partial-iterator.result ≡ c.sort.new.self.items = search rules in
    merged c.args.found.items c.sort.new.self.items c.loop-partial.kept.items c.in_ok-sort.ensures.permutation c.in_ok-sort.ensures.sorted
    (subst (λ (ps : List Partial). IsKeptFrom [] ps c.loop-partial.kept.items) begun
    (c.loop-partial.invariant c.loop-partial.kept.items (subst (λ (ps : List Partial). IsKeptFrom c.loop-partial.kept.items ps c.loop-partial.kept.items) (sym none) refl)))
