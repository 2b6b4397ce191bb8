use Rattle.std.proofs.Common.{length, ◌∷◌, [], sym, ◌∙◌, subst}
use Rattle.tib_cost.specs.Least.{IsLeast}
use Rattle.tib_match.specs.Boxes.{all_spanned, IsReadBox}
use Rattle.tib_match.specs.Searching.{boxes_of}
use Rattle.tib_match.proofs.BoxSearch.{on_ok, too_dear, halved, taken}
use Rattle.tib_match.proofs.StackedItems.{side_nested, as_many}
use Rattle.tib_match.proofs.searching.Search.search_box.Goals as goal

pub returns-in_default : goal.returns-in_default
returns-in_default g c =
    let product = g.S.Semiring.product in
    let self = c.args.self.now in
    let spans = c.args.spans.now in
    let least = subst (λ xs. IsLeast (IsReadBox product self.normal.now.rules xs (self.state ∷ []) (all_spanned spans self.costs.now)) c.in_ok-least.least) c.items-items.ensures.items c.in_ok-least.ensures in
    too_dear g.met.S.Semiring.laws self.normal.now.rules c.grammar.ensures.normal.normal c.args.side.now c.items-items.ensures.leaves self.state self.above self.costs.now
    c.args.found.now.items (boxes_of c.args.waiting.now.items) spans c.in_ok-least.least least (sym c.product_of.ensures ∙ c.in_default.is)

pub returns-in-Some-first_wide : goal.returns-in-Some-first_wide
returns-in-Some-first_wide g c =
    let self = c.args.self.now in
    on_ok c.push_halves.result _ _
    (λ h. halved g.met.S.Semiring.laws self.normal.now.rules c.grammar.ensures.normal.normal c.args.side.now c.items-items.ensures.leaves self.state self.above self.costs.now
    c.args.found.now.items (boxes_of c.args.waiting.now.items) (boxes_of c.push_halves.new.waiting.items) c.args.spans.now c.in-Some-first_wide.place c.in-Some-first_wide.ensures h)
    c.push_halves.ensures

pub returns-in-None : goal.returns-in-None
returns-in-None g c =
    let product = g.S.Semiring.product in
    let self = c.args.self.now in
    let spans = c.args.spans.now in
    let least = subst (λ xs. IsLeast (IsReadBox product self.normal.now.rules xs (self.state ∷ []) (all_spanned spans self.costs.now)) c.in_ok-least.least) c.items-items.ensures.items c.in_ok-least.ensures in
    on_ok c.take.result _ _
    (λ t. taken g.met.S.Semiring.laws self.normal.now.rules c.grammar.ensures.normal.normal c.args.side.now c.items-items.ensures.leaves self.state self.above self.costs.now
    c.args.found.now.items c.take.new.found.items (boxes_of c.args.waiting.now.items) spans c.in_ok-least.least c.in-Some._whole c.in-None.ensures least (sym c.product_of.ensures ∙ c.in-Some.is) t)
    c.take.ensures

pub least_cost-requires-clause-nested : goal.least_cost-requires-clause-nested
least_cost-requires-clause-nested g c = side_nested c.items-items.result.now c.args.side.now c.items-items.ensures.items

pub least_cost-requires-clause-costs : goal.least_cost-requires-clause-costs
least_cost-requires-clause-costs g c = as_many c.items-items.result.now c.args.side.now (length c.args.self.now.costs.now) c.items-items.ensures.items c.requires.costs

pub least_cost-requires-clause-spans : goal.least_cost-requires-clause-spans
least_cost-requires-clause-spans g c = as_many c.items-items.result.now c.args.side.now (length c.args.spans.now) c.items-items.ensures.items c.requires.spans
