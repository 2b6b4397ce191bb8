use Rattle.std.proofs.Common.{ℕ, ◌+◌, ◌-◌, List, [], sym, ◌∙◌, subst}
use Rattle.tib_expand.specs.declared.place.ExpandError.{ExpandError}
use Rattle.tib_determinize.specs.Stepped.{IsUnderway}
use Rattle.tib_determinize.specs.Tries.{under, by_last, behind_label}
use Rattle.tib_determinize.proofs.Results.{err_is}
use Rattle.tib_determinize.proofs.Underway.{underway_next, overrun_next}
use Rattle.tib_determinize.proofs.Occurring.{begun_left}
use Rattle.tib_determinize.proofs.Passes.{last_first}
use Rattle.tib_determinize.proofs.residuals.list_shape.Goals as goal

pub list_all-requires-clause-alive : goal.list_all-requires-clause-alive
list_all-requires-clause-alive g c =
    let w = c.args.walk.now in
    begun_left g.S.Semiring.product w.rules.now c.requires.normal w.order.now c.requires.standing.0 w.label w.rank w.position c.loop-last.last c.args.places.now c.in-Ok.alive.items c.loop-last-test.true
    c.requires.standing.1 c.in-Ok.ensures.sound c.in-Ok.ensures.whole

pub returns-in-Err-clause-more : goal.returns-in-Err-clause-more
returns-in-Err-clause-more g c = λ e.
    let w = c.args.walk.now in
    let product = g.S.Semiring.product in
    let all = behind_label w.label (by_last w.position w.rank 0 w.rank) in
    let first = behind_label w.label (under w.position c.loop-last.last w.rank []) in
    let others = behind_label w.label (by_last w.position w.rank (c.loop-last.last + 1) (w.rank - (c.loop-last.last + 1))) in
    let listed = subst (λ (xs : List (ℕ × List ℕ)). IsUnderway product w.rules.now w.order.now all xs c.args.listing.now c.loop-last.listing) (last_first w.label w.position w.rank c.loop-last.last c.loop-last-test.true) c.loop-last.invariant.listed in
    overrun_next product w.rules.now w.order.now all c.args.listing.now c.loop-last.listing first others (sym c.loop-last.invariant.budget) listed
    (c.list_all.ensures.more (err_is c.list_all.result c.in-Err.fault ExpandError.More c.in-Err.is e))

pub loop-last-preserved : goal.loop-last-preserved
loop-last-preserved g c =
    let w = c.args.walk.now in
    let product = g.S.Semiring.product in
    let all = behind_label w.label (by_last w.position w.rank 0 w.rank) in
    let first = behind_label w.label (under w.position c.loop-last.last w.rank []) in
    let others = behind_label w.label (by_last w.position w.rank (c.loop-last.last + 1) (w.rank - (c.loop-last.last + 1))) in
    let listed = subst (λ (xs : List (ℕ × List ℕ)). IsUnderway product w.rules.now w.order.now all xs c.args.listing.now c.loop-last.listing) (last_first w.label w.position w.rank c.loop-last.last c.loop-last-test.true) c.loop-last.invariant.listed in
    record {
      listed = underway_next product w.rules.now w.order.now all c.args.listing.now c.loop-last.listing c.list_all.new.listing first others listed c.in-Ok-list_all.ensures.added;
      within = c.in-Ok-list_all.ensures.within;
      budget = c.list_all.ensures.budget ∙ c.loop-last.invariant.budget;
    }
