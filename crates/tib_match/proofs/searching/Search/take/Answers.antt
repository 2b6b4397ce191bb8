use Rattle.std.proofs.Common.{◌++◌, ◌∷◌, [], ap, ◌∙◌, subst, refl, Some, None, ℕ, List, length}
use Rattle.std.proofs.lemmas.List.{length-replicate}
use Rattle.tib_cost.specs.Least.{IsLeast}
use Rattle.tib_tree.specs.Trees.{preorder_of}
use Rattle.tib_grammar.specs.Items.{pairs_of}
use Rattle.tib_match.specs.Boxes.{all_spanned, IsReadBox}
use Rattle.tib_match.specs.declared.hole_cost.HoleCost.TheVariants.{Free}
use Rattle.tib_match.proofs.StackedItems.{side_nested, as_many}
use Rattle.tib_match.proofs.searching.Search.take.Goals as goal

pub returns-in_default : goal.returns-in_default
returns-in_default g c =
    let product = g.S.Semiring.product in
    let rules_of = c.args.self.now.normal.now.rules in
    let qs = c.args.self.now.state ∷ [] in
    let many = length c.args.self.now.costs.now in
    record {
      least = None;
      is_least = subst (λ hs. IsLeast (IsReadBox product rules_of (preorder_of c.args.side.now) qs (all_spanned c.args.spans.now hs)) None) (c.deref.ensures.value ∙ c.in_ok-free.ensures)
          (subst (λ xs. IsLeast (IsReadBox product rules_of xs qs (all_spanned c.args.spans.now c.deref.result.now)) None) c.items.ensures.items
          (subst (IsLeast (IsReadBox product rules_of (pairs_of c.items.result.now) qs (all_spanned c.args.spans.now c.deref.result.now))) c.in_default.is c.in_ok-least.ensures));
      found = refl;
    }

pub returns : goal.returns
returns g c =
    let product = g.S.Semiring.product in
    let rules_of = c.args.self.now.normal.now.rules in
    let qs = c.args.self.now.state ∷ [] in
    let cost = c.in-Some.cost in
    record {
      least = Some cost;
      is_least = subst (λ hs. IsLeast (IsReadBox product rules_of (preorder_of c.args.side.now) qs (all_spanned c.args.spans.now hs)) (Some cost)) (c.deref.ensures.value ∙ c.in_ok-free.ensures)
          (subst (λ xs. IsLeast (IsReadBox product rules_of xs qs (all_spanned c.args.spans.now c.deref.result.now)) (Some cost)) c.items.ensures.items
          (subst (IsLeast (IsReadBox product rules_of (pairs_of c.items.result.now) qs (all_spanned c.args.spans.now c.deref.result.now))) c.in-Some.is c.in_ok-least.ensures));
      found = c.in_ok-push.ensures.items ∙ ap (λ (ss : List ℕ). c.args.found.now.items ++ (ss, cost) ∷ []) c.in_ok-states.ensures;
    }

pub least_cost-requires-clause-nested : goal.least_cost-requires-clause-nested
least_cost-requires-clause-nested g c = side_nested c.items.result.now c.args.side.now c.items.ensures.items

pub least_cost-requires-clause-costs : goal.least_cost-requires-clause-costs
least_cost-requires-clause-costs g c =
    ap length (c.deref.ensures.value ∙ c.in_ok-free.ensures) ∙ length-replicate (length c.args.self.now.costs.now) Free
    ∙ as_many c.items.result.now c.args.side.now (length c.args.self.now.costs.now) c.items.ensures.items c.requires.costs

pub least_cost-requires-clause-spans : goal.least_cost-requires-clause-spans
least_cost-requires-clause-spans g c = as_many c.items.result.now c.args.side.now (length c.args.spans.now) c.items.ensures.items c.requires.spans
