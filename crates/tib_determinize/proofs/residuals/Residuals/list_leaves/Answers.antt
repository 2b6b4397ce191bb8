use Rattle.std.proofs.Common.{◌≡◌, ℕ, ◌+◌, List, [], drop, get_or, sym, ◌∙◌, subst, refl}
use Rattle.tib_expand.specs.declared.place.ExpandError.{ExpandError}
use Rattle.tib_determinize.specs.Shapes.{shapes_in}
use Rattle.tib_determinize.specs.Stepped.{HasSteps, IsUnderway, StepsExceed}
use Rattle.tib_determinize.specs.Tries.{leaf_try, leaf_tries}
use Rattle.tib_determinize.proofs.Results.{err_is}
use Rattle.tib_determinize.proofs.Underway.{underway_next, overrun_next, listing_empty}
use Rattle.tib_determinize.proofs.Passes.{leaf_first, leaves_done, has_steps, steps_exceed}
use Rattle.tib_determinize.proofs.residuals.Residuals.list_leaves.Goals as goal

pub returns-in-Err-clause-more : goal.returns-in-Err-clause-more
returns-in-Err-clause-more g c = λ e.
    let product = g.S.Semiring.product in
    let rules = c.args.self.now.normal.now.rules in
    let shapes = c.deref-shapes.result.now in
    let are : shapes ≡ shapes_in rules = c.deref-shapes.ensures.value ∙ c.args.self.now.listed in
    let s = get_or shapes c.loop-i.i (0, 0) in
    let low = c.loop-i-test.true in
    let all = leaf_tries shapes in
    let first = leaf_try s in
    let others = leaf_tries (drop (c.loop-i.i + 1) shapes) in
    let listed = subst (λ (xs : List (ℕ × List ℕ)). IsUnderway product rules [] all xs c.new-listing.result c.loop-i.listing) (leaf_first shapes c.loop-i.i (0, 0) s low refl) c.loop-i.invariant.listed in
    let empty = listing_empty c.new-listing.result c.new-listing.ensures.ends c.new-listing.ensures.rules c.new-listing.ensures.parts in
    subst (λ (xs : List (ℕ × ℕ)). StepsExceed product rules [] (leaf_tries xs) c.args.budget) are
    (steps_exceed product rules [] all c.new-listing.result c.args.budget empty c.new-listing.ensures.budget
    (overrun_next product rules [] all c.new-listing.result c.loop-i.listing first others (sym c.loop-i.invariant.budget) listed
    (c.list_leaf.ensures.more (err_is c.list_leaf.result c.in-Err.fault ExpandError.More c.in-Err.is e))))

pub loop-i-preserved : goal.loop-i-preserved
loop-i-preserved g c =
    let product = g.S.Semiring.product in
    let rules = c.args.self.now.normal.now.rules in
    let shapes = c.deref-shapes.result.now in
    let are : shapes ≡ shapes_in rules = c.deref-shapes.ensures.value ∙ c.args.self.now.listed in
    let s = get_or shapes c.loop-i.i (0, 0) in
    let low = c.loop-i-test.true in
    let all = leaf_tries shapes in
    let first = leaf_try s in
    let others = leaf_tries (drop (c.loop-i.i + 1) shapes) in
    let listed = subst (λ (xs : List (ℕ × List ℕ)). IsUnderway product rules [] all xs c.new-listing.result c.loop-i.listing) (leaf_first shapes c.loop-i.i (0, 0) s low refl) c.loop-i.invariant.listed in
    record {
      listed = underway_next product rules [] all c.new-listing.result c.loop-i.listing c.list_leaf.new.listing first others listed c.in-Ok.ensures.added;
      within = c.in-Ok.ensures.within;
      budget = c.list_leaf.ensures.budget ∙ c.loop-i.invariant.budget;
    }

pub returns-clause-listed : goal.returns-clause-listed
returns-clause-listed g c =
    let product = g.S.Semiring.product in
    let rules = c.args.self.now.normal.now.rules in
    let shapes = c.deref-shapes.result.now in
    let are : shapes ≡ shapes_in rules = c.deref-shapes.ensures.value ∙ c.args.self.now.listed in
    let empty = listing_empty c.new-listing.result c.new-listing.ensures.ends c.new-listing.ensures.rules c.new-listing.ensures.parts in
    subst (λ (xs : List (ℕ × ℕ)). HasSteps product rules [] (leaf_tries xs) c.loop-i.listing) are
    (has_steps product rules [] (leaf_tries shapes) c.new-listing.result c.loop-i.listing empty
    (subst (λ (left : List (ℕ × List ℕ)). IsUnderway product rules [] (leaf_tries shapes) left c.new-listing.result c.loop-i.listing)
    (leaves_done shapes c.loop-i.i c.loop-i-test.false) c.loop-i.invariant.listed))
