use Rattle.std.proofs.Common.{length, ◌≤◌, ◌∷◌, [], sym, ◌∙◌, subst}
use Rattle.std.specs.Prelude.{IfSome}
use Rattle.tib_cost.specs.Semiring.{most}
use Rattle.tib_grammar.specs.Items.{pairs_of}
use Rattle.tib_match.specs.Counting.{HasLists}
use Rattle.tib_match.proofs.BoxCosts.{cut_low}
use Rattle.tib_match.proofs.CountedLists.{lists_show, true_less}
use Rattle.tib_match.proofs.StackedItems.{side_nested, as_many}
use Rattle.tib_match.proofs.counting.has_more.Goals as goal

pub returns : goal.returns
returns g c = λ t.
    let product = g.S.Semiring.product in
    let grammar = c.args.normal.now.rules in
    let found = c.in-Some.found in
    let within : product c.args.above found.worst ≤ most = cut_low (product c.args.above found.worst) c.in-Some-times._whole (sym c.times.ensures ∙ c.in-Some-times.is) in
    lists_show g.met.S.Semiring.laws grammar c.grammar.ensures.normal.normal c.args.side.now c.items.ensures.leaves c.args.state c.args.above c.args.costs.now found.worst within found.count c.args.most
    (subst (λ xs. HasLists product grammar xs c.args.costs.now (c.args.state ∷ []) found.count found.worst) c.items.ensures.items
    (subst (λ v. IfSome v (λ p. HasLists product grammar (pairs_of c.items.result.now) c.args.costs.now (c.args.state ∷ []) p.count p.worst)) c.in-Some.is c.in_ok-found.ensures))
    (true_less c.args.most found.count t)

pub count_lists-requires-clause-nested : goal.count_lists-requires-clause-nested
count_lists-requires-clause-nested g c = side_nested c.items.result.now c.args.side.now c.items.ensures.items

pub count_lists-requires-clause-costs : goal.count_lists-requires-clause-costs
count_lists-requires-clause-costs g c = as_many c.items.result.now c.args.side.now (length c.args.costs.now) c.items.ensures.items c.requires
