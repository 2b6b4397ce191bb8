use Rattle.std.proofs.Common.{◌≡◌, ℕ, ◌+◌, List, drop, get_or, sym, ◌∙◌, subst, refl}
use Rattle.tib_grammar.specs.GrammarOf.{GrammarOf}
use Rattle.tib_grammar.specs.declared.Rule.{Rule}
use Rattle.tib_expand.specs.declared.place.ExpandError.{ExpandError}
use Rattle.tib_determinize.specs.Shapes.{shapes_in}
use Rattle.tib_determinize.specs.Stepped.{AddsSteps, HasSteps, IsUnderway, StepsExceed, StepsOverrun}
use Rattle.tib_determinize.specs.Tries.{tries, by_last, behind_label}
use Rattle.tib_determinize.proofs.Results.{err_is}
use Rattle.tib_determinize.proofs.Underway.{underway_next, overrun_next, listing_empty}
use Rattle.tib_determinize.proofs.Passes.{shape_first, shapes_done, has_steps, steps_exceed}
use Rattle.std.specs.Global.{Vec}
use Rattle.std.proofs.Common.{[], ap}
use Rattle.std.proofs.lemmas.List.{get_or_read}
use Rattle.tib_determinize.specs.declared.occurrences.Occurrence.{Occurrence}
use Rattle.tib_determinize.specs.Holders.{held}
use Rattle.tib_determinize.specs.Occurrences.{AreFound, HaveStanding, bucket}
use Rattle.tib_determinize.specs.Vectors.{VectorOf, vector_at}
use Rattle.tib_determinize.proofs.Occurring.{have_standing}
use Rattle.tib_determinize.proofs.residuals.Residuals.list_position.Goals as goal

pub returns-in-Err-clause-more : goal.returns-in-Err-clause-more
returns-in-Err-clause-more g c = λ e.
    let product = g.S.Semiring.product in
    let rules = c.args.self.now.normal.now.rules in
    let rules_are : c.rule_list-rules.result.now ≡ rules = c.rule_list-rules.ensures ∙ ap (λ (h : GrammarOf). h.rules) c.grammar.ensures.same in
    let shapes = c.deref-shapes.result.now in
    let are : shapes ≡ shapes_in rules = c.deref-shapes.ensures.value ∙ c.args.self.now.listed in
    let s = get_or shapes c.loop-i.i (0, 0) in
    let low = c.loop-i-test.true in
    let all = tries c.args.position shapes in
    let first = behind_label s.0 (by_last c.args.position s.1 0 s.1) in
    let others = tries c.args.position (drop (c.loop-i.i + 1) shapes) in
    let listed = subst (λ (xs : List (ℕ × List ℕ)). IsUnderway product rules c.args.order.now all xs c.new-listing.result c.loop-i.listing) (shape_first c.args.position shapes c.loop-i.i (0, 0) s low refl) c.loop-i.invariant.listed in
    let empty = listing_empty c.new-listing.result c.new-listing.ensures.ends c.new-listing.ensures.rules c.new-listing.ensures.parts in
    subst (λ (xs : List (ℕ × ℕ)). StepsExceed product rules c.args.order.now (tries c.args.position xs) c.args.budget) are
    (steps_exceed product rules c.args.order.now all c.new-listing.result c.args.budget empty c.new-listing.ensures.budget
    (overrun_next product rules c.args.order.now all c.new-listing.result c.loop-i.listing first others (sym c.loop-i.invariant.budget) listed
    (subst (λ (rs : List (Rule ℕ)). StepsOverrun product rs c.args.order.now first c.loop-i.listing) rules_are (c.list_shape.ensures.more (err_is c.list_shape.result c.in-Err.fault ExpandError.More c.in-Err.is e)))))

pub loop-i-preserved : goal.loop-i-preserved
loop-i-preserved g c =
    let product = g.S.Semiring.product in
    let rules = c.args.self.now.normal.now.rules in
    let rules_are : c.rule_list-rules.result.now ≡ rules = c.rule_list-rules.ensures ∙ ap (λ (h : GrammarOf). h.rules) c.grammar.ensures.same in
    let shapes = c.deref-shapes.result.now in
    let are : shapes ≡ shapes_in rules = c.deref-shapes.ensures.value ∙ c.args.self.now.listed in
    let s = get_or shapes c.loop-i.i (0, 0) in
    let low = c.loop-i-test.true in
    let all = tries c.args.position shapes in
    let first = behind_label s.0 (by_last c.args.position s.1 0 s.1) in
    let others = tries c.args.position (drop (c.loop-i.i + 1) shapes) in
    let listed = subst (λ (xs : List (ℕ × List ℕ)). IsUnderway product rules c.args.order.now all xs c.new-listing.result c.loop-i.listing) (shape_first c.args.position shapes c.loop-i.i (0, 0) s low refl) c.loop-i.invariant.listed in
    record {
      listed = underway_next product rules c.args.order.now all c.new-listing.result c.loop-i.listing c.list_shape.new.listing first others listed
          (subst (λ (rs : List (Rule ℕ)). AddsSteps product rs c.args.order.now first c.loop-i.listing c.list_shape.new.listing) rules_are c.in-Ok-list_shape.ensures.added);
      within = c.in-Ok-list_shape.ensures.within;
      budget = c.list_shape.ensures.budget ∙ c.loop-i.invariant.budget;
    }

pub returns-clause-listed : goal.returns-clause-listed
returns-clause-listed g c =
    let product = g.S.Semiring.product in
    let rules = c.args.self.now.normal.now.rules in
    let shapes = c.deref-shapes.result.now in
    let are : shapes ≡ shapes_in rules = c.deref-shapes.ensures.value ∙ c.args.self.now.listed in
    let empty = listing_empty c.new-listing.result c.new-listing.ensures.ends c.new-listing.ensures.rules c.new-listing.ensures.parts in
    subst (λ (xs : List (ℕ × ℕ)). HasSteps product rules c.args.order.now (tries c.args.position xs) c.loop-i.listing) are
    (has_steps product rules c.args.order.now (tries c.args.position shapes) c.new-listing.result c.loop-i.listing empty
    (subst (λ (left : List (ℕ × List ℕ)). IsUnderway product rules c.args.order.now (tries c.args.position shapes) left c.new-listing.result c.loop-i.listing)
    (shapes_done c.args.position shapes c.loop-i.i c.loop-i-test.false) c.loop-i.invariant.listed))

pub list_shape-requires-clause-standing : goal.list_shape-requires-clause-standing
list_shape-requires-clause-standing g c =
    let rules = c.args.self.now.normal.now.rules in
    let rules_are : c.rule_list-rules.result.now ≡ rules = c.rule_list-rules.ensures ∙ ap (λ (h : GrammarOf). h.rules) c.grammar.ensures.same in
    let s = get_or c.deref-shapes.result.now c.loop-i.i (0, 0) in
    let order = c.args.order.now in
    let own = c.args.self.now.occurrences in
    let v = vector_at order c.args.position in
    let at = get_or_read order c.args.position c.index-order-position.result c.requires.position c.index-order-position.is [] in
    let are : AreFound v own.lists.items c.in-Ok.found.items = subst (λ (u : VectorOf). AreFound u own.lists.items c.in-Ok.found.items) at c.in-Ok.ensures in
    let is : c.of_label-places.result.now ≡ held c.in-Ok.found.items (bucket s.0 own.many) =
    c.of_label-places.ensures ∙ ap (λ (xs : List (Vec Occurrence)). held xs (bucket s.0 own.many)) c.deref.ensures.value
    in (
      own.many,
      subst (λ (rs : List (Rule ℕ)). HaveStanding rs own.many s.0 s.1 v c.of_label-places.result.now) (sym rules_are)
          (have_standing rules own.many s.0 s.1 v own.lists.items c.in-Ok.found.items c.of_label-places.result.now c.args.self.now.lack_none are is),
    )
