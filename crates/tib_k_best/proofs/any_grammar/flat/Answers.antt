use Rattle.std.specs.Prelude.{ℕ, List, []}
use Rattle.std.proofs.Common.{ap, sym, ◌∙◌, subst}
use Rattle.tib_ranked_trees.specs.Best.{Costed}
use Rattle.tib_k_best.specs.RankedOf.{ranked_of, AreRanked}
use Rattle.tib_k_best.proofs.any_grammar.flat.Goals as goal

pub new-requires-2 : goal.new-requires-2
new-requires-2 g c =
    subst (λ (ps : List ℕ). AreRanked c.all_below-split.result.below c.all_below-split.result.at c.in_ok-first.first.items ps) (sym c.new.ensures.items)
    (subst (λ (xs : List Costed). AreRanked xs c.all_below-split.result.at c.in_ok-first.first.items []) (sym c.all_below-split.ensures) (c.in_ok-first.ensures.ranked c.all_below-split.result.at))

pub returns : goal.returns
returns g c =
    c.new-2.ensures ∙ ap (λ (ps : List ℕ). ranked_of c.all_below-split.result.below c.all_below-split.result.at c.all_below-split.result.cost c.in_ok-first.first.items ps) c.new.ensures.items
    ∙ ap (λ (xs : List Costed). ranked_of xs c.all_below-split.result.at c.all_below-split.result.cost c.in_ok-first.first.items []) c.all_below-split.ensures
    ∙ c.in_ok-first.ensures.same c.all_below-split.result.at c.all_below-split.result.cost
