use Rattle.std.specs.Prelude.{Option, Some}
use Rattle.std.proofs.Common.{arith, ◌≡◌, ℕ, [], get_or, sym, ◌∙◌, ap, take}
use Rattle.tib_weigh.specs.Vectors.{vectors}
use Rattle.tib_weigh.specs.Found.{cost_of}
use Rattle.tib_weigh.specs.Worth.{rest_worth, worth, HasTried}
use Rattle.tib_weigh.specs.Entries.{cost_in}
use Rattle.tib_cost.specs.Least.{times}
use Rattle.tib_weigh.proofs.Tries.{has_item, taken, tried_past, tried_more}
use Rattle.tib_weigh.proofs.trying.try_slot.Goals as goal

pub loop-record-preserved-then-record-entry : goal.loop-record-preserved-then-record-entry
loop-record-preserved-then-record-entry g c = record {
  last = c.loop-record.invariant.last;
  noted = c.loop-record.invariant.noted;
  long = c.loop-record.invariant.long;
  tried = taken (λ rs. HasTried (worth g.S.Semiring.product c.args.at.rules.now c.args.at.place (vectors c.args.at.stack.now)) c.args.entry.now.state rs (cost_of c.args.found.now) (cost_of c.loop-record.found))
      c.args.ready.now c.loop-record.record-index c.record-item.result c.loop-record-test.true c.record-item.is
      (tried_past (worth g.S.Semiring.product c.args.at.rules.now c.args.at.place (vectors c.args.at.stack.now)) c.args.entry.now.state (take c.loop-record.record-index c.args.ready.now) c.record-item.result
      (cost_of c.args.found.now) (cost_of c.loop-record.found) (λ e. absurd (omega (arith, e, c.if-record-entry.true))) c.loop-record.invariant.tried);
}

pub recall-requires-clause-rule : goal.recall-requires-clause-rule
recall-requires-clause-rule g c = (c.requires.sound c.record-item.result (has_item c.args.ready.now c.loop-record.record-index c.record-item.result c.loop-record-test.true c.record-item.is)).0

pub lower-requires-clause-within : goal.lower-requires-clause-within
lower-requires-clause-within g c =
    let below = (c.requires.sound c.record-item.result (has_item c.args.ready.now c.loop-record.record-index c.record-item.result c.loop-record-test.true c.record-item.is)).1 in
    omega (arith, below, c.loop-record.invariant.long)

pub loop-record-preserved : goal.loop-record-preserved
loop-record-preserved g c =
    let r = c.record-item.result in
    let vs = vectors c.args.at.stack.now in
    let e = c.args.entry.now in
    let value = worth g.S.Semiring.product c.args.at.rules.now c.args.at.place vs in
    let same : r.state ≡ e.state = omega (arith, c.if-record-entry.false) in
    let here : cost_in (get_or vs c.args.at.place []) r.state ≡ Some e.cost = ap (cost_in (get_or vs c.args.at.place [])) same ∙ c.requires.here in
    let is : c.product_with-cost.result ≡ value r =
    c.product_with-cost.ensures
    ∙ ap (λ (x : Option ℕ). times g.S.Semiring.product (times g.S.Semiring.product (Some e.cost) x) (Some r.cost)) c.recall.ensures.cost
    ∙ ap (λ (x : Option ℕ). times g.S.Semiring.product (times g.S.Semiring.product x (rest_worth g.S.Semiring.product c.args.at.rules.now c.args.at.place vs r.rest)) (Some r.cost)) (sym here)
    in
    record {
      last = c.recall.ensures.last;
      noted = c.in_ok-lower.ensures.noted;
      long = c.in_ok-lower.ensures.long ∙ c.loop-record.invariant.long;
      tried = taken (λ rs. HasTried value e.state rs (cost_of c.args.found.now) (cost_of c.lower.new.found))
          c.args.ready.now c.loop-record.record-index r c.loop-record-test.true c.record-item.is
          (tried_more value e.state (take c.loop-record.record-index c.args.ready.now) r (cost_of c.args.found.now) (cost_of c.loop-record.found) (cost_of c.lower.new.found) c.product_with-cost.result is
          c.in_ok-lower.ensures.costs c.loop-record.invariant.tried);
    }
