use Rattle.std.proofs.Common.{◌≡◌, ◌∙◌, length, map, sym, ap, subst, arith}
use Rattle.tib_expand.specs.Keys.{key_parts}
use Rattle.tib_hunt.specs.Shelved.{all_on, IsUnderway, IsWorked, IsTooMuch}
use Rattle.tib_expand.specs.Reached.{IfTooMany}
use Rattle.tib_expand.proofs.Reaching.{hunt_of}
use Rattle.tib_hunt.proofs.Advancing.{few_keys}
use Rattle.tib_hunt.proofs.Underway.{underway_none, next_under, next_at, next_is, underway_more, more_at, told_much, underway_worked}
use Rattle.tib_lex.specs.Lists.{total}
use Rattle.tib_hunt.proofs.Outcomes.{underway_run}
use Rattle.tib_hunt.proofs.shelved_round.work_round.Goals as goal

pub invariant_of-of : goal.invariant_of-of
invariant_of-of g c =
    let b = c.requires.between.1 in
    let few = few_keys (hunt_of (g.met.E.Expand.lawful c.args.terms.now.problem.now) g.met.E.Key.Ord.total g.met.E.Key.TableKey.same g.met.E.Key.Eq.laws.refl) b.held in
    let l = c.requires.limit in
    record { within = b.low; few = omega arith }

pub loop-init : goal.loop-init
loop-init g c =
    let e = c.in-Ok.ensures in
    record {
      about = ap (λ r. r.about) e;
      underway = subst (λ s. IsUnderway (g.E.Expand.hunted c.args.terms.now.problem.now) g.E.Expand.reading g.E.Key.PartialEq.eq g.E.Key.TableKey.shelf_of c.args.order.now c.args.first c.args.first s c.in-Ok-with_capacity.rows.items c.args.parts c.args.parts c.args.terms.now.limit) (sym (ap (λ r. r.core) e))
          (subst (λ rows. IsUnderway (g.E.Expand.hunted c.args.terms.now.problem.now) g.E.Expand.reading g.E.Key.PartialEq.eq g.E.Key.TableKey.shelf_of c.args.order.now c.args.first c.args.first _ rows c.args.parts c.args.parts c.args.terms.now.limit) (sym c.in-Ok-with_capacity.ensures.items) (underway_none (hunt_of (g.met.E.Expand.lawful c.args.terms.now.problem.now) g.met.E.Key.Ord.total g.met.E.Key.TableKey.same g.met.E.Key.Eq.laws.refl) g.E.Key.TableKey.shelf_of (λ x. g.met.E.Key.TableKey.low x) c.args.order.now c.args.first c.args.parts c.args.terms.now.limit c.requires.between.1.held.within));
      drawn = (let d = ap (λ r. r.core.drawn) e in omega arith);
      counted = sym (ap (λ r. total (key_parts g.E.Key.TableKey.entries_of) (all_on r.core.shelves)) e);
      few = omega arith;
    }

pub returns-in-Err-clause-more : goal.returns-in-Err-clause-more
returns-in-Err-clause-more g c = told_much (hunt_of (g.met.E.Expand.lawful c.args.terms.now.problem.now) g.met.E.Key.Ord.total g.met.E.Key.TableKey.same g.met.E.Key.Eq.laws.refl) g.E.Key.TableKey.shelf_of (λ x. g.met.E.Key.TableKey.low x) c.args.order.now c.args.first c.loop.counter c.draw_item.new.round.core c.loop.work.rows.items c.args.parts c.loop.work.parts c.args.terms.now.limit (next_under (hunt_of (g.met.E.Expand.lawful c.args.terms.now.problem.now) g.met.E.Key.Ord.total g.met.E.Key.TableKey.same g.met.E.Key.Eq.laws.refl) g.E.Key.TableKey.shelf_of (λ x. g.met.E.Key.TableKey.low x) c.args.order.now c.args.first c.loop.counter c.loop.round.core c.loop.work.rows.items c.args.parts c.loop.work.parts c.args.terms.now.limit c.loop.invariant.underway c.args.terms.now.problem.now c.loop.round.about c.loop.invariant.about c.draw_item.new.round.core c.in-Ok-draw_item.ensures.core c.loop.invariant.drawn (let t = c.loop-test.true in omega arith) c.in-Ok-draw_item.drawn c.in-Ok-draw_item.ensures.next) (next_at (hunt_of (g.met.E.Expand.lawful c.args.terms.now.problem.now) g.met.E.Key.Ord.total g.met.E.Key.TableKey.same g.met.E.Key.Eq.laws.refl) g.E.Key.TableKey.shelf_of (λ x. g.met.E.Key.TableKey.low x) c.args.order.now c.args.first c.loop.counter c.loop.round.core c.loop.work.rows.items c.args.parts c.loop.work.parts c.args.terms.now.limit c.loop.invariant.underway c.args.terms.now.problem.now c.loop.round.about c.loop.invariant.about c.draw_item.new.round.core c.in-Ok-draw_item.ensures.core c.loop.invariant.drawn (let t = c.loop-test.true in omega arith) c.in-Ok-draw_item.drawn c.in-Ok-draw_item.ensures.next) c.requires.between.0 c.requires.between.1 (let t = c.loop-test.true in omega arith) c.in-Err.error
    (subst (λ i. IfTooMany c.args.terms.now.limit (IsTooMuch (g.E.Expand.hunted c.args.terms.now.problem.now) g.E.Expand.reading g.E.Key.PartialEq.eq g.E.Key.TableKey.shelf_of c.args.order.now i c.draw_item.new.round.core c.loop.work.parts c.args.terms.now.limit) c.in-Err.error) (next_is (hunt_of (g.met.E.Expand.lawful c.args.terms.now.problem.now) g.met.E.Key.Ord.total g.met.E.Key.TableKey.same g.met.E.Key.Eq.laws.refl) g.E.Key.TableKey.shelf_of (λ x. g.met.E.Key.TableKey.low x) c.args.order.now c.args.first c.loop.counter c.loop.round.core c.loop.work.rows.items c.args.parts c.loop.work.parts c.args.terms.now.limit c.loop.invariant.underway c.args.terms.now.problem.now c.loop.round.about c.loop.invariant.about c.draw_item.new.round.core c.in-Ok-draw_item.ensures.core c.loop.invariant.drawn (let t = c.loop-test.true in omega arith) c.in-Ok-draw_item.drawn c.in-Ok-draw_item.ensures.next c.in-Some.item c.in-Some.is) c.in-Err.ensures.more)

pub loop-preserved : goal.loop-preserved
loop-preserved g c = record {
  about = c.in-Ok-work_item.ensures.about ∙ c.in-Ok-draw_item.ensures.about ∙ c.loop.invariant.about;
  underway = underway_more (hunt_of (g.met.E.Expand.lawful c.args.terms.now.problem.now) g.met.E.Key.Ord.total g.met.E.Key.TableKey.same g.met.E.Key.Eq.laws.refl) g.E.Key.TableKey.shelf_of (λ x. g.met.E.Key.TableKey.low x) c.args.order.now c.args.first c.loop.counter c.draw_item.new.round.core c.loop.work.rows.items c.args.parts c.loop.work.parts c.args.terms.now.limit (next_under (hunt_of (g.met.E.Expand.lawful c.args.terms.now.problem.now) g.met.E.Key.Ord.total g.met.E.Key.TableKey.same g.met.E.Key.Eq.laws.refl) g.E.Key.TableKey.shelf_of (λ x. g.met.E.Key.TableKey.low x) c.args.order.now c.args.first c.loop.counter c.loop.round.core c.loop.work.rows.items c.args.parts c.loop.work.parts c.args.terms.now.limit c.loop.invariant.underway c.args.terms.now.problem.now c.loop.round.about c.loop.invariant.about c.draw_item.new.round.core c.in-Ok-draw_item.ensures.core c.loop.invariant.drawn (let t = c.loop-test.true in omega arith) c.in-Ok-draw_item.drawn c.in-Ok-draw_item.ensures.next) (next_at (hunt_of (g.met.E.Expand.lawful c.args.terms.now.problem.now) g.met.E.Key.Ord.total g.met.E.Key.TableKey.same g.met.E.Key.Eq.laws.refl) g.E.Key.TableKey.shelf_of (λ x. g.met.E.Key.TableKey.low x) c.args.order.now c.args.first c.loop.counter c.loop.round.core c.loop.work.rows.items c.args.parts c.loop.work.parts c.args.terms.now.limit c.loop.invariant.underway c.args.terms.now.problem.now c.loop.round.about c.loop.invariant.about c.draw_item.new.round.core c.in-Ok-draw_item.ensures.core c.loop.invariant.drawn (let t = c.loop-test.true in omega arith) c.in-Ok-draw_item.drawn c.in-Ok-draw_item.ensures.next) c.work_item.new.round.core c.work_item.new.work.rows.items c.work_item.new.work.parts
      (subst (λ i. IsWorked (g.E.Expand.hunted c.args.terms.now.problem.now) g.E.Expand.reading g.E.Key.PartialEq.eq g.E.Key.TableKey.shelf_of c.args.order.now i c.draw_item.new.round.core c.loop.work.rows.items c.loop.work.parts c.work_item.new.round.core c.work_item.new.work.rows.items c.work_item.new.work.parts c.args.terms.now.limit) (next_is (hunt_of (g.met.E.Expand.lawful c.args.terms.now.problem.now) g.met.E.Key.Ord.total g.met.E.Key.TableKey.same g.met.E.Key.Eq.laws.refl) g.E.Key.TableKey.shelf_of (λ x. g.met.E.Key.TableKey.low x) c.args.order.now c.args.first c.loop.counter c.loop.round.core c.loop.work.rows.items c.args.parts c.loop.work.parts c.args.terms.now.limit c.loop.invariant.underway c.args.terms.now.problem.now c.loop.round.about c.loop.invariant.about c.draw_item.new.round.core c.in-Ok-draw_item.ensures.core c.loop.invariant.drawn (let t = c.loop-test.true in omega arith) c.in-Ok-draw_item.drawn c.in-Ok-draw_item.ensures.next c.in-Some.item c.in-Some.is) c.in-Ok-work_item.ensures.worked);
  drawn = more_at (hunt_of (g.met.E.Expand.lawful c.args.terms.now.problem.now) g.met.E.Key.Ord.total g.met.E.Key.TableKey.same g.met.E.Key.Eq.laws.refl) g.E.Key.TableKey.shelf_of (λ x. g.met.E.Key.TableKey.low x) c.args.order.now c.args.first c.loop.counter c.draw_item.new.round.core c.loop.work.rows.items c.args.parts c.loop.work.parts c.args.terms.now.limit (next_under (hunt_of (g.met.E.Expand.lawful c.args.terms.now.problem.now) g.met.E.Key.Ord.total g.met.E.Key.TableKey.same g.met.E.Key.Eq.laws.refl) g.E.Key.TableKey.shelf_of (λ x. g.met.E.Key.TableKey.low x) c.args.order.now c.args.first c.loop.counter c.loop.round.core c.loop.work.rows.items c.args.parts c.loop.work.parts c.args.terms.now.limit c.loop.invariant.underway c.args.terms.now.problem.now c.loop.round.about c.loop.invariant.about c.draw_item.new.round.core c.in-Ok-draw_item.ensures.core c.loop.invariant.drawn (let t = c.loop-test.true in omega arith) c.in-Ok-draw_item.drawn c.in-Ok-draw_item.ensures.next) (next_at (hunt_of (g.met.E.Expand.lawful c.args.terms.now.problem.now) g.met.E.Key.Ord.total g.met.E.Key.TableKey.same g.met.E.Key.Eq.laws.refl) g.E.Key.TableKey.shelf_of (λ x. g.met.E.Key.TableKey.low x) c.args.order.now c.args.first c.loop.counter c.loop.round.core c.loop.work.rows.items c.args.parts c.loop.work.parts c.args.terms.now.limit c.loop.invariant.underway c.args.terms.now.problem.now c.loop.round.about c.loop.invariant.about c.draw_item.new.round.core c.in-Ok-draw_item.ensures.core c.loop.invariant.drawn (let t = c.loop-test.true in omega arith) c.in-Ok-draw_item.drawn c.in-Ok-draw_item.ensures.next) c.work_item.new.round.core c.work_item.new.work.rows.items c.work_item.new.work.parts
      (subst (λ i. IsWorked (g.E.Expand.hunted c.args.terms.now.problem.now) g.E.Expand.reading g.E.Key.PartialEq.eq g.E.Key.TableKey.shelf_of c.args.order.now i c.draw_item.new.round.core c.loop.work.rows.items c.loop.work.parts c.work_item.new.round.core c.work_item.new.work.rows.items c.work_item.new.work.parts c.args.terms.now.limit) (next_is (hunt_of (g.met.E.Expand.lawful c.args.terms.now.problem.now) g.met.E.Key.Ord.total g.met.E.Key.TableKey.same g.met.E.Key.Eq.laws.refl) g.E.Key.TableKey.shelf_of (λ x. g.met.E.Key.TableKey.low x) c.args.order.now c.args.first c.loop.counter c.loop.round.core c.loop.work.rows.items c.args.parts c.loop.work.parts c.args.terms.now.limit c.loop.invariant.underway c.args.terms.now.problem.now c.loop.round.about c.loop.invariant.about c.draw_item.new.round.core c.in-Ok-draw_item.ensures.core c.loop.invariant.drawn (let t = c.loop-test.true in omega arith) c.in-Ok-draw_item.drawn c.in-Ok-draw_item.ensures.next c.in-Some.item c.in-Some.is) c.in-Ok-work_item.ensures.worked);
  counted = c.in-Ok-work_item.ensures.counted;
  few = c.in-Ok-work_item.ensures.few;
}

pub returns-clause-worked : goal.returns-clause-worked
returns-clause-worked g c =
    let u = c.loop.invariant.underway in
    let few = u.kept.few in
    let drawn = u.drawn in
    let low = c.requires.between.1.low in
    let t = c.loop-test.false in
    let e : c.loop.counter ≡ length c.args.order.now = omega arith in
    underway_worked (hunt_of (g.met.E.Expand.lawful c.args.terms.now.problem.now) g.met.E.Key.Ord.total g.met.E.Key.TableKey.same g.met.E.Key.Eq.laws.refl) g.E.Key.TableKey.shelf_of (λ x. g.met.E.Key.TableKey.low x) c.args.order.now c.args.first c.loop.round.core c.loop.work.rows.items c.args.parts c.loop.work.parts c.args.terms.now.limit
    (subst (λ n. IsUnderway (g.E.Expand.hunted c.args.terms.now.problem.now) g.E.Expand.reading g.E.Key.PartialEq.eq g.E.Key.TableKey.shelf_of c.args.order.now c.args.first n c.loop.round.core c.loop.work.rows.items c.args.parts c.loop.work.parts c.args.terms.now.limit) e u)
    (map (λ v. v.items) c.in-Ok-close.shelves.items) (sym c.in-Ok-close.ensures)

pub returns-clause-run : goal.returns-clause-run
returns-clause-run g c =
    let u = c.loop.invariant.underway in
    let few = u.kept.few in
    let drawn = u.drawn in
    let low = c.requires.between.1.low in
    let t = c.loop-test.false in
    let e : c.loop.counter ≡ length c.args.order.now = omega arith in
    underway_run (hunt_of (g.met.E.Expand.lawful c.args.terms.now.problem.now) g.met.E.Key.Ord.total g.met.E.Key.TableKey.same g.met.E.Key.Eq.laws.refl) g.E.Key.TableKey.shelf_of (λ x. g.met.E.Key.TableKey.low x) c.args.order.now c.args.first c.loop.round.core c.loop.work.rows.items c.args.parts c.loop.work.parts c.args.terms.now.limit
    (subst (λ n. IsUnderway (g.E.Expand.hunted c.args.terms.now.problem.now) g.E.Expand.reading g.E.Key.PartialEq.eq g.E.Key.TableKey.shelf_of c.args.order.now c.args.first n c.loop.round.core c.loop.work.rows.items c.args.parts c.loop.work.parts c.args.terms.now.limit) e u)
    (map (λ v. v.items) c.in-Ok-close.shelves.items) (sym c.in-Ok-close.ensures)
