use Rattle.std.proofs.Common.{rules, ◌≡◌, ℕ, ◌-◌, List, [], ◌∷◌, suc, arith, ap, sym, ◌∙◌, subst, get_or, length}
use Rattle.std.specs.Prelude.{OnOk}
use Rattle.std.proofs.lemmas.List.{get_or_read}
use Rattle.tib_determinize.specs.declared.alive.Alive.{Alive}
use Rattle.std.proofs.Common.{◌<◌}
use Rattle.tib_lex.specs.Lists.{Each}
use Rattle.tib_determinize.specs.Alive.{IsAlive}
use Rattle.tib_determinize.proofs.Walked.{have_place}
use Rattle.tib_determinize.specs.Alive.{narrowed, AreAlive, AreLeft}
use Rattle.tib_determinize.proofs.Remaining.{left_are_alive}
use Rattle.tib_determinize.specs.Tries.{under, behind_label}
use Rattle.tib_determinize.specs.Stepped.{AddsSteps, IsUnderway, StepsOverrun}
use Rattle.tib_expand.specs.declared.place.ExpandError.{ExpandError}
use Rattle.tib_determinize.proofs.Results.{err_is}
use Rattle.tib_determinize.proofs.Underway.{underway_begins}
use Rattle.tib_determinize.proofs.Visits.{adds_nothing, alive_next, nothing_next, level_below, tries_fresh, leaf_is, nothing_left, fits, in_order, long, rises_next}
use Rattle.tib_determinize.proofs.walk.visit.Goals as goal

pub narrow-requires-clause-rise : goal.narrow-requires-clause-rise
narrow-requires-clause-rise g c =
    let w = c.args.walk.now in
    let l = c.args.level.now in
    let product = g.S.Semiring.product in
    let laws = g.met.S.Semiring.laws in
    let at = get_or_read w.order.now l.next c.index-walk-level.result (in_order product laws w.rules.now c.requires.normal w.order.now w.label w.rank w.position w.last c.requires.rise l c.requires.level c.requires.next) c.index-walk-level.is in
    rises_next product laws w.rules.now c.requires.normal w.order.now w.label w.rank w.position w.last c.requires.rise l c.requires.level c.requires.next (get_or w.order.now l.next c.index-walk-level.result) (sym (at c.index-walk-level.result) ∙ at [])

pub returns-then-is_empty-clause-underway : goal.returns-then-is_empty-clause-underway
returns-then-is_empty-clause-underway g c =
    let w = c.args.walk.now in
    let l = c.args.level.now in
    let product = g.S.Semiring.product in
    let laws = g.met.S.Semiring.laws in
    let at = get_or_read w.order.now l.next c.index-walk-level.result (in_order product laws w.rules.now c.requires.normal w.order.now w.label w.rank w.position w.last c.requires.rise l c.requires.level c.requires.next) c.index-walk-level.is in
    let v = get_or w.order.now l.next c.index-walk-level.result in
    let alive = alive_next product laws w.rules.now c.requires.normal w.order.now w.label w.rank w.position w.last c.requires.rise l c.requires.level c.requires.next v c.in-Ok.alive.items (sym (at c.index-walk-level.result) ∙ at [])
    (c.in-Ok.ensures ∙ ap (narrowed product w.rules.now l.place v) c.deref.ensures.value) in
    let short : length c.in-Ok.alive.items ≡ 0 = search rules in
    let empty : c.in-Ok.alive.items ≡ [] = nothing_left c.in-Ok.alive.items short in
    adds_nothing product w.rules.now w.order.now (behind_label w.label (under w.position w.last l.place (l.next ∷ l.behind.items))) c.args.listing.now
    (nothing_next product laws w.rules.now c.requires.normal w.order.now w.label w.rank w.position w.last c.requires.rise l c.requires.level c.requires.next c.in-Ok.alive.items alive empty)

pub overflow_cast-level : goal.overflow_cast-level
overflow_cast-level g c = let small = fits g.S.Semiring.product g.met.S.Semiring.laws c.args.walk.now.rules.now c.requires.normal c.args.walk.now.order.now c.args.walk.now.label c.args.walk.now.rank c.args.walk.now.position c.args.walk.now.last c.requires.rise c.args.level.now c.requires.level c.requires.next in omega (arith, small)

pub list-requires-clause-alive : goal.list-requires-clause-alive
list-requires-clause-alive g c =
    let w = c.args.walk.now in
    let l = c.args.level.now in
    let product = g.S.Semiring.product in
    let laws = g.met.S.Semiring.laws in
    let at = get_or_read w.order.now l.next c.index-walk-level.result (in_order product laws w.rules.now c.requires.normal w.order.now w.label w.rank w.position w.last c.requires.rise l c.requires.level c.requires.next) c.index-walk-level.is in
    let v = get_or w.order.now l.next c.index-walk-level.result in
    let alive = alive_next product laws w.rules.now c.requires.normal w.order.now w.label w.rank w.position w.last c.requires.rise l c.requires.level c.requires.next v c.in-Ok.alive.items (sym (at c.index-walk-level.result) ∙ at [])
    (c.in-Ok.ensures ∙ ap (narrowed product w.rules.now l.place v) c.deref.ensures.value) in
    let positions : c.in-Ok-put_before.positions.items ≡ l.next ∷ l.behind.items = c.in-Ok-put_before.ensures ∙ ap (λ (xs : List ℕ). l.next ∷ xs) c.deref-2.ensures.value in
    subst (λ (ms : List Alive). AreAlive product w.rules.now w.order.now w.label w.rank 0 c.deref-then-place-eq0.result.now ms) (sym c.deref-then-place-eq0-2.ensures.value)
    (subst (λ (xs : List ℕ). AreAlive product w.rules.now w.order.now w.label w.rank 0 xs c.in-Ok.alive.items) (sym (c.deref-then-place-eq0.ensures.value ∙ positions))
    (left_are_alive product laws w.rules.now c.requires.normal w.order.now w.label w.rank w.position w.last (l.next ∷ l.behind.items) c.in-Ok.alive.items
    (subst (λ m. AreLeft product w.rules.now w.order.now w.label w.rank w.position w.last m (l.next ∷ l.behind.items) c.in-Ok.alive.items) c.if-place-eq0.true alive)))

pub returns-then-place-eq0-clause-underway : goal.returns-then-place-eq0-clause-underway
returns-then-place-eq0-clause-underway g c =
    let w = c.args.walk.now in
    let l = c.args.level.now in
    let product = g.S.Semiring.product in
    let laws = g.met.S.Semiring.laws in
    let positions : c.in-Ok-put_before.positions.items ≡ l.next ∷ l.behind.items = c.in-Ok-put_before.ensures ∙ ap (λ (xs : List ℕ). l.next ∷ xs) c.deref-2.ensures.value in
    subst (λ all. AddsSteps product w.rules.now w.order.now all c.args.listing.now c.list.new.listing)
    (leaf_is w.label w.position w.last l.place (l.next ∷ l.behind.items) c.deref-then-place-eq0.result.now c.if-place-eq0.true (c.deref-then-place-eq0.ensures.value ∙ positions))
    (subst (λ r. OnOk r (AddsSteps product w.rules.now w.order.now ((w.label, c.deref-then-place-eq0.result.now) ∷ []) c.args.listing.now c.list.new.listing)) c.in-Ok-list.is c.list.ensures.added)

pub returns-in-Err-clause-more : goal.returns-in-Err-clause-more
returns-in-Err-clause-more g c = λ e.
    let w = c.args.walk.now in
    let l = c.args.level.now in
    let product = g.S.Semiring.product in
    let laws = g.met.S.Semiring.laws in
    let positions : c.in-Ok-put_before.positions.items ≡ l.next ∷ l.behind.items = c.in-Ok-put_before.ensures ∙ ap (λ (xs : List ℕ). l.next ∷ xs) c.deref-2.ensures.value in
    subst (λ all. StepsOverrun product w.rules.now w.order.now all c.args.listing.now)
    (leaf_is w.label w.position w.last l.place (l.next ∷ l.behind.items) c.deref-then-place-eq0.result.now c.if-place-eq0.true (c.deref-then-place-eq0.ensures.value ∙ positions))
    (c.list.ensures.more (err_is c.list.result c.in-Err.fault ExpandError.More c.in-Err.is e))

pub new-requires-clause-places : goal.new-requires-clause-places
new-requires-clause-places g c =
    let w = c.args.walk.now in
    let l = c.args.level.now in
    let product = g.S.Semiring.product in
    let laws = g.met.S.Semiring.laws in
    let at = get_or_read w.order.now l.next c.index-walk-level.result (in_order product laws w.rules.now c.requires.normal w.order.now w.label w.rank w.position w.last c.requires.rise l c.requires.level c.requires.next) c.index-walk-level.is in
    let v = get_or w.order.now l.next c.index-walk-level.result in
    let alive = alive_next product laws w.rules.now c.requires.normal w.order.now w.label w.rank w.position w.last c.requires.rise l c.requires.level c.requires.next v c.in-Ok.alive.items (sym (at c.index-walk-level.result) ∙ at [])
    (c.in-Ok.ensures ∙ ap (narrowed product w.rules.now l.place v) c.deref.ensures.value) in
    let same : l.place ≡ suc (l.place - 1) = (let n = c.if-place-eq0.false in omega (arith, n)) in
    let low : l.place - 1 < w.rank = (let n = c.if-place-eq0.false in let p = c.requires.level.place in omega (arith, n, p)) in
    have_place product laws w.rules.now c.requires.normal w.order.now w.label w.rank (l.place - 1) (l.next ∷ l.behind.items) c.in-Ok.alive.items low
    (subst (λ m. Each (IsAlive product w.rules.now w.order.now w.label w.rank m (l.next ∷ l.behind.items)) c.in-Ok.alive.items) same alive.sound)

pub returns-in-Ok-new-clause-underway : goal.returns-in-Ok-new-clause-underway
returns-in-Ok-new-clause-underway g c =
    let w = c.args.walk.now in
    let l = c.args.level.now in
    let product = g.S.Semiring.product in
    let laws = g.met.S.Semiring.laws in
    let positions : c.in-Ok-put_before.positions.items ≡ l.next ∷ l.behind.items = c.in-Ok-put_before.ensures ∙ ap (λ (xs : List ℕ). l.next ∷ xs) c.deref-2.ensures.value in
    let same : suc (l.place - 1) ≡ l.place = (let n = c.if-place-eq0.false in omega (arith, n)) in
    let all = behind_label w.label (under w.position w.last l.place (l.next ∷ l.behind.items)) in
    let fresh = tries_fresh w.position w.last (l.place - 1) c.in-Ok-new.below (l.next ∷ l.behind.items) c.in-Ok-new.ensures.place (ap (λ v. v.items) c.in-Ok-new.ensures.behind ∙ positions) c.in-Ok-new.ensures.next c.in-Ok-new.ensures.end in
    subst (λ left. IsUnderway product w.rules.now w.order.now all (behind_label w.label left) c.args.listing.now c.args.listing.now)
    (sym (fresh ∙ ap (λ m. under w.position w.last m (l.next ∷ l.behind.items)) same)) (underway_begins product w.rules.now w.order.now all c.args.listing.now)

pub returns-in-Ok-new-clause-level : goal.returns-in-Ok-new-clause-level
returns-in-Ok-new-clause-level g c =
    let w = c.args.walk.now in
    let l = c.args.level.now in
    let product = g.S.Semiring.product in
    let laws = g.met.S.Semiring.laws in
    let at = get_or_read w.order.now l.next c.index-walk-level.result (in_order product laws w.rules.now c.requires.normal w.order.now w.label w.rank w.position w.last c.requires.rise l c.requires.level c.requires.next) c.index-walk-level.is in
    let v = get_or w.order.now l.next c.index-walk-level.result in
    let alive = alive_next product laws w.rules.now c.requires.normal w.order.now w.label w.rank w.position w.last c.requires.rise l c.requires.level c.requires.next v c.in-Ok.alive.items (sym (at c.index-walk-level.result) ∙ at [])
    (c.in-Ok.ensures ∙ ap (narrowed product w.rules.now l.place v) c.deref.ensures.value) in
    let positions : c.in-Ok-put_before.positions.items ≡ l.next ∷ l.behind.items = c.in-Ok-put_before.ensures ∙ ap (λ (xs : List ℕ). l.next ∷ xs) c.deref-2.ensures.value in
    let same : suc (l.place - 1) ≡ l.place = (let n = c.if-place-eq0.false in omega (arith, n)) in
    level_below product laws w.rules.now c.requires.normal w.order.now w.label w.rank w.position w.last c.requires.rise l c.requires.level (l.place - 1) c.in-Ok-new.below (l.next ∷ l.behind.items) c.in-Ok.alive.items same alive
    (long product laws w.rules.now c.requires.normal w.order.now w.label w.rank w.position w.last c.requires.rise l c.requires.level c.requires.next) c.in-Ok-new.ensures.place (ap (λ v. v.items) c.in-Ok-new.ensures.behind ∙ positions) (ap (λ v. v.items) c.in-Ok-new.ensures.alive)
    c.in-Ok-new.ensures.next c.in-Ok-new.ensures.end c.in-Ok-new.ensures.wanted c.in-Ok-new.ensures.within c.in-Ok-new.ensures.fits
