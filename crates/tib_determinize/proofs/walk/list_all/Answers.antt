use Rattle.std.proofs.Common.{rules, ◌≡◌, refl, ◌+◌, ◌-◌, ◌<◌, ◌++◌, List, [], ◌∷◌, length, suc, arith, ap, sym, ◌∙◌, subst}
use Rattle.tib_expand.specs.declared.place.ExpandError.{ExpandError}
use Rattle.tib_determinize.specs.declared.walk.Level.{Level}
use Rattle.tib_lex.specs.Lists.{Each}
use Rattle.tib_determinize.proofs.Walked.{have_place}
use Rattle.tib_determinize.specs.Alive.{IsAlive, AreLeft}
use Rattle.tib_determinize.specs.Levels.{steps_of}
use Rattle.tib_determinize.specs.Tries.{first_at, many_at, under, behind_label}
use Rattle.tib_determinize.proofs.Results.{err_is, if_some}
use Rattle.tib_determinize.proofs.WalkLoop.{IsWalking, walking_begins, walking_done, walking_next, walking_overruns, walking_skips, last_level, steps_fewer, steps_done, steps_moved}
use Rattle.tib_determinize.specs.declared.alive.Alive.{Alive}
use Rattle.tib_determinize.proofs.Remaining.{under_none}
use Rattle.tib_determinize.proofs.Visits.{adds_nothing, nothing_left}
use Rattle.tib_determinize.proofs.walk.list_all.Goals as goal

pub returns-then-is_empty-clause-added : goal.returns-then-is_empty-clause-added
returns-then-is_empty-clause-added g c =
    let w = c.args.walk.now in
    let product = g.S.Semiring.product in
    let short : length c.args.alive.items ≡ 0 = search rules in
    let empty : c.args.alive.items ≡ [] = nothing_left c.args.alive.items short in
    let total : w.rank + 0 ≡ w.rank = omega arith in
    adds_nothing product w.rules.now w.order.now (behind_label w.label (under w.position w.last w.rank [])) c.args.listing.now
    (under_none product g.met.S.Semiring.laws w.rules.now c.requires.normal w.order.now w.label w.rank w.position w.last w.rank [] total
    (subst (λ (ms : List Alive). AreLeft product w.rules.now w.order.now w.label w.rank w.position w.last w.rank [] ms) empty c.requires.alive))

pub loop-whole-init : goal.loop-whole-init
loop-whole-init g c =
    let w = c.args.walk.now in
    let product = g.S.Semiring.product in
    let all = behind_label w.label (under w.position w.last w.rank []) in
    let one : suc (w.rank - 1) ≡ w.rank = (let r = c.requires.rank in omega (arith, r)) in
    let l = c.in-Ok.first in
    let e = c.in-Ok.ensures in
    let items : c.push.new.self.items ≡ l ∷ [] = c.in-Ok-push.ensures.items ∙ ap (λ (xs : List Level). xs ++ l ∷ []) c.new-levels.ensures.items in
    record {
      walking = subst (λ (xs : List Level). IsWalking product w.rules.now w.order.now w.label w.rank w.position w.last all c.args.listing.now xs c.args.listing.now) (sym items)
          (walking_begins product w.rules.now w.order.now w.label w.rank w.position w.last all c.args.listing.now l (ap suc e.place ∙ one) (ap (λ v. v.items) e.behind ∙ c.new.ensures.items)
          (subst (λ v. AreLeft product w.rules.now w.order.now w.label w.rank w.position w.last w.rank [] v.items) (sym e.alive) c.requires.alive)
          (e.next ∙ ap (first_at w.position w.last) (sym e.place))
          (e.end ∙ ap (λ i. first_at w.position w.last i + many_at w.position w.last i) (sym e.place)) e.wanted e.within e.fits refl);
      within = c.requires.within;
      budget = refl;
    }

pub new-requires-2-clause-places : goal.new-requires-2-clause-places
new-requires-2-clause-places g c =
    let w = c.args.walk.now in
    let product = g.S.Semiring.product in
    let one : w.rank ≡ suc (w.rank - 1) = (let r = c.requires.rank in omega (arith, r)) in
    let low : w.rank - 1 < w.rank = (let r = c.requires.rank in omega (arith, r)) in
    have_place product g.met.S.Semiring.laws w.rules.now c.requires.normal w.order.now w.label w.rank (w.rank - 1) [] c.args.alive.items low
    (subst (λ m. Each (IsAlive product w.rules.now w.order.now w.label w.rank m []) c.args.alive.items) one c.requires.alive.sound)

pub loop-whole-smaller-then-level : goal.loop-whole-smaller-then-level
loop-whole-smaller-then-level g c =
    subst (λ (xs : List Level). steps_of (length c.args.walk.now.order.now) c.pop.new.self.items < steps_of (length c.args.walk.now.order.now) xs) (sym c.in-Some.ensures.items)
    (steps_done (length c.args.walk.now.order.now) c.pop.new.self.items c.in-Some.whole)

pub loop-whole-preserved-then-level : goal.loop-whole-preserved-then-level
loop-whole-preserved-then-level g c =
    let w = c.args.walk.now in
    let product = g.S.Semiring.product in
    let all = behind_label w.label (under w.position w.last w.rank []) in
    let l = c.skip-level.result in
    let ls = c.pop.new.self.items in
    let walked = subst (λ (xs : List Level). IsWalking product w.rules.now w.order.now w.label w.rank w.position w.last all c.args.listing.now xs c.loop-whole.listing) c.in-Some.ensures.items c.loop-whole.invariant.walking in
    let walking = walking_skips product w.rules.now w.order.now w.label w.rank w.position w.last all c.args.listing.now g.met.S.Semiring.laws c.requires.normal c.requires.rise ls c.in-Some.whole l c.loop-whole.listing
    c.skip-level.ensures.level c.skip-level.ensures.from c.skip-level.ensures.to c.skip-level.ensures.between walked in
    record {
      walking = walking_done product w.rules.now w.order.now w.label w.rank w.position w.last all c.args.listing.now ls l c.loop-whole.listing c.if-level.true walking;
      within = c.loop-whole.invariant.within;
      budget = c.loop-whole.invariant.budget;
    }

pub visit-requires-clause-level : goal.visit-requires-clause-level
visit-requires-clause-level g c =
    let w = c.args.walk.now in
    let product = g.S.Semiring.product in
    let all = behind_label w.label (under w.position w.last w.rank []) in
    let l = c.skip-level.result in
    let ls = c.pop.new.self.items in
    let walked = subst (λ (xs : List Level). IsWalking product w.rules.now w.order.now w.label w.rank w.position w.last all c.args.listing.now xs c.loop-whole.listing) c.in-Some.ensures.items c.loop-whole.invariant.walking in
    let walking = walking_skips product w.rules.now w.order.now w.label w.rank w.position w.last all c.args.listing.now g.met.S.Semiring.laws c.requires.normal c.requires.rise ls c.in-Some.whole l c.loop-whole.listing
    c.skip-level.ensures.level c.skip-level.ensures.from c.skip-level.ensures.to c.skip-level.ensures.between walked in
    last_level product w.rules.now w.order.now w.label w.rank w.position w.last all c.args.listing.now ls l c.loop-whole.listing walking

pub returns-in-Err-clause-more : goal.returns-in-Err-clause-more
returns-in-Err-clause-more g c = λ e.
    let w = c.args.walk.now in
    let product = g.S.Semiring.product in
    let all = behind_label w.label (under w.position w.last w.rank []) in
    let l = c.skip-level.result in
    let ls = c.pop.new.self.items in
    let walked = subst (λ (xs : List Level). IsWalking product w.rules.now w.order.now w.label w.rank w.position w.last all c.args.listing.now xs c.loop-whole.listing) c.in-Some.ensures.items c.loop-whole.invariant.walking in
    let walking = walking_skips product w.rules.now w.order.now w.label w.rank w.position w.last all c.args.listing.now g.met.S.Semiring.laws c.requires.normal c.requires.rise ls c.in-Some.whole l c.loop-whole.listing
    c.skip-level.ensures.level c.skip-level.ensures.from c.skip-level.ensures.to c.skip-level.ensures.between walked in
    walking_overruns product w.rules.now w.order.now w.label w.rank w.position w.last all c.args.listing.now ls l c.loop-whole.listing c.if-level.false (sym c.loop-whole.invariant.budget) walking
    (c.visit.ensures.more (err_is c.visit.result c.in-Err.fault ExpandError.More c.in-Err.is e))

pub push_levels-requires : goal.push_levels-requires
push_levels-requires g c =
    let w = c.args.walk.now in
    let product = g.S.Semiring.product in
    let all = behind_label w.label (under w.position w.last w.rank []) in
    let l = c.skip-level.result in
    let ls = c.pop.new.self.items in
    let walked = subst (λ (xs : List Level). IsWalking product w.rules.now w.order.now w.label w.rank w.position w.last all c.args.listing.now xs c.loop-whole.listing) c.in-Some.ensures.items c.loop-whole.invariant.walking in
    let walking = walking_skips product w.rules.now w.order.now w.label w.rank w.position w.last all c.args.listing.now g.met.S.Semiring.laws c.requires.normal c.requires.rise ls c.in-Some.whole l c.loop-whole.listing
    c.skip-level.ensures.level c.skip-level.ensures.from c.skip-level.ensures.to c.skip-level.ensures.between walked in
    let level = last_level product w.rules.now w.order.now w.label w.rank w.position w.last all c.args.listing.now ls l c.loop-whole.listing walking in
    let fits = level.fits in
    let next = c.if-level.false in
    omega (arith, fits, next)

pub loop-whole-smaller : goal.loop-whole-smaller
loop-whole-smaller g c =
    let many = length c.args.walk.now.order.now in
    let ls = c.pop.new.self.items in
    let fewer = steps_fewer many ls c.skip-level.result c.in-Ok-visit.below c.if-level.false (if_some c.in-Ok-visit.below _ c.in-Ok-visit.ensures.few) in
    let no_more = steps_moved many ls c.in-Some.whole c.skip-level.result c.skip-level.ensures.level c.skip-level.ensures.from in
    subst (λ (xs : List Level). steps_of many c.push_levels.new.levels.items < steps_of many xs) (sym c.in-Some.ensures.items)
    (subst (λ (xs : List Level). steps_of many xs < steps_of many (ls ++ c.in-Some.whole ∷ [])) (sym c.in-Ok-push_levels.ensures) (omega (arith, fewer, no_more)))

pub loop-whole-preserved : goal.loop-whole-preserved
loop-whole-preserved g c =
    let w = c.args.walk.now in
    let product = g.S.Semiring.product in
    let all = behind_label w.label (under w.position w.last w.rank []) in
    let l = c.skip-level.result in
    let ls = c.pop.new.self.items in
    let walked = subst (λ (xs : List Level). IsWalking product w.rules.now w.order.now w.label w.rank w.position w.last all c.args.listing.now xs c.loop-whole.listing) c.in-Some.ensures.items c.loop-whole.invariant.walking in
    let walking = walking_skips product w.rules.now w.order.now w.label w.rank w.position w.last all c.args.listing.now g.met.S.Semiring.laws c.requires.normal c.requires.rise ls c.in-Some.whole l c.loop-whole.listing
    c.skip-level.ensures.level c.skip-level.ensures.from c.skip-level.ensures.to c.skip-level.ensures.between walked in
    let below = c.in-Ok-visit.below in
    let few = if_some below _ c.in-Ok-visit.ensures.few in
    record {
      walking = subst (λ (xs : List Level). IsWalking product w.rules.now w.order.now w.label w.rank w.position w.last all c.args.listing.now xs c.visit.new.listing) (sym c.in-Ok-push_levels.ensures)
          (walking_next product w.rules.now w.order.now w.label w.rank w.position w.last all c.args.listing.now ls l below c.loop-whole.listing c.visit.new.listing c.if-level.false walking c.in-Ok-visit.ensures.underway
          (if_some below _ c.in-Ok-visit.ensures.level) (λ b e. (few b e).1));
      within = c.in-Ok-visit.ensures.within;
      budget = c.visit.ensures.budget ∙ c.loop-whole.invariant.budget;
    }

pub skip-level-requires : goal.skip-level-requires
skip-level-requires g c =
    let w = c.args.walk.now in
    let product = g.S.Semiring.product in
    let all = behind_label w.label (under w.position w.last w.rank []) in
    let ls = c.pop.new.self.items in
    let walked = subst (λ (xs : List Level). IsWalking product w.rules.now w.order.now w.label w.rank w.position w.last all c.args.listing.now xs c.loop-whole.listing) c.in-Some.ensures.items c.loop-whole.invariant.walking in
    (last_level product w.rules.now w.order.now w.label w.rank w.position w.last all c.args.listing.now ls c.in-Some.whole c.loop-whole.listing walked).wanted.ascends
