use Rattle.std.proofs.Common.{arith, subst, drop, get_or, length, ◌+◌, ◌<◌, List, ℕ}
use Rattle.std.proofs.lemmas.List.{drop_more}
use Rattle.tib_inside.specs.Settling.{costs_in, IsSettling}
use Rattle.tib_inside.proofs.Moving.{may_touch, touched}
use Rattle.tib_inside.proofs.pending.spread.Goals as goal

pub touch-requires-clause-rule : goal.touch-requires-clause-rule
touch-requires-clause-rule g c =
    let may = may_touch g.S.Semiring.product c.args.rules.now (costs_in c.args.costs.now) (length c.args.costs.now) c.args.cost c.loop-n.n-index c.args.uses.now c.loop-n.pending.items c.loop-n.agenda c.requires.range c.requires.below (omega arith) c.loop-n.invariant.settling in
    omega (arith, may.0, c.loop-n.invariant.settling.long)

pub touch-requires-clause-missing : goal.touch-requires-clause-missing
touch-requires-clause-missing g c =
    (may_touch g.S.Semiring.product c.args.rules.now (costs_in c.args.costs.now) (length c.args.costs.now) c.args.cost c.loop-n.n-index c.args.uses.now c.loop-n.pending.items c.loop-n.agenda c.requires.range c.requires.below (omega arith) c.loop-n.invariant.settling).1

pub touch-requires-clause-left : goal.touch-requires-clause-left
touch-requires-clause-left g c =
    (may_touch g.S.Semiring.product c.args.rules.now (costs_in c.args.costs.now) (length c.args.costs.now) c.args.cost c.loop-n.n-index c.args.uses.now c.loop-n.pending.items c.loop-n.agenda c.requires.range c.requires.below (omega arith) c.loop-n.invariant.settling).2

pub loop-n-preserved : goal.loop-n-preserved
loop-n-preserved g c =
    let here : c.loop-n.n-index < length c.args.uses.now = omega arith in
    let may = may_touch g.S.Semiring.product c.args.rules.now (costs_in c.args.costs.now) (length c.args.costs.now) c.args.cost c.loop-n.n-index c.args.uses.now c.loop-n.pending.items c.loop-n.agenda c.requires.range c.requires.below here c.loop-n.invariant.settling in
    record {
      settling = touched g.met.S.Semiring.laws c.args.rules.now (costs_in c.args.costs.now) c.args.cost (get_or c.args.uses.now c.loop-n.n-index 0) (drop (c.loop-n.n-index + 1) c.args.uses.now) c.loop-n.pending.items c.touch.new.pending.items c.loop-n.agenda c.touch.new.agenda
          may.0
          (subst (λ (ns : List ℕ). IsSettling g.S.Semiring.product c.args.rules.now (costs_in c.args.costs.now) c.args.cost ns c.loop-n.pending.items c.loop-n.agenda) (drop_more c.args.uses.now c.loop-n.n-index 0 here) c.loop-n.invariant.settling)
          c.in_ok-touch.ensures;
      more = omega (arith, c.in_ok-touch.ensures.offers.more, c.loop-n.invariant.more);
    }
