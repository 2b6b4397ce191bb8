use Rattle.std.specs.Prelude.{◌⊎◌}
use Rattle.std.proofs.Common.{arith, inl, inr}
use Rattle.tib_lex.specs.Lists.{Has}
use Rattle.tib_lazy_lists.specs.Demands.{IsMet}
use Rattle.tib_lazy_lists.proofs.Led.{led_down, led_ends, led_none}
use Rattle.tib_lazy_lists.specs.AskingOf.{asking_of}
use Rattle.tib_lazy_lists.proofs.Demanded.{alone, first_last, first_or, nothing_left, put_down, unmet_fewer, unmet_more}
use Rattle.tib_lazy_lists.proofs.asking.Asking.demands.Goals as goal

pub loop-demand-init : goal.loop-demand-init
loop-demand-init g c =
    let b = alone c.args.lists.now (asking_of c.args.self.now) c.new-order.result.items c.new-stack.result.items c.push.new.self.items c.args.first c.new-order.ensures.items c.new-stack.ensures.items c.in_ok-push.ensures.items c.requires.first in
    record {
      stack = b.0;
      order = b.1;
      few = b.2;
      led = led_none (λ e. Has c.push.new.self.items e ⊎ IsMet c.args.lists.now (asking_of c.args.self.now) e) c.args.lists.now (asking_of c.args.self.now) c.new-order.result.items c.new-order.ensures.items;
      first = inr b.3;
    }

pub expand-requires-clause-demand : goal.expand-requires-clause-demand
expand-requires-clause-demand g c =
    (unmet_fewer c.args.lists.now (asking_of c.args.self.now) c.loop-demand.stack.items c.pop.new.self.items c.in-Some.demand c.in-Some.ensures.items c.loop-demand.invariant.stack).0

pub expand-requires-clause-stack : goal.expand-requires-clause-stack
expand-requires-clause-stack g c =
    (unmet_fewer c.args.lists.now (asking_of c.args.self.now) c.loop-demand.stack.items c.pop.new.self.items c.in-Some.demand c.in-Some.ensures.items c.loop-demand.invariant.stack).1

pub loop-demand-preserved : goal.loop-demand-preserved
loop-demand-preserved g c =
    let x = c.args.lists.now in
    let a = asking_of c.args.self.now in
    let w = c.loop-demand.invariant in
    let u = unmet_fewer x a c.loop-demand.stack.items c.pop.new.self.items c.in-Some.demand c.in-Some.ensures.items w.stack in
    record {
      stack = c.in_ok-expand.ensures.stack;
      order = unmet_more x a c.loop-demand.order.items c.push-in-Some.new.self.items c.in-Some.demand c.in_ok-push-2.ensures.items w.order u.0;
      few = put_down x c.args.first c.in-Some.demand c.loop-demand.order.items c.push-in-Some.new.self.items c.loop-demand.stack.items c.pop.new.self.items c.expand.new.stack.items c.in_ok-push-2.ensures.items c.in-Some.ensures.items c.in_ok-expand.ensures.nodes w.few;
      led = led_down x a c.loop-demand.order.items c.push-in-Some.new.self.items c.loop-demand.stack.items c.pop.new.self.items c.expand.new.stack.items c.in-Some.demand c.in_ok-push-2.ensures.items c.in-Some.ensures.items
          c.in_ok-expand.ensures.kept c.in_ok-expand.ensures.there w.led;
      first = inl (first_or c.loop-demand.order.items c.loop-demand.stack.items c.pop.new.self.items c.push-in-Some.new.self.items c.args.first c.in-Some.demand c.in-Some.ensures.items c.in_ok-push-2.ensures.items w.first);
    }

pub returns-clause-few : goal.returns-clause-few
returns-clause-few g c = omega (arith, c.loop-demand.invariant.few)

pub returns-clause-unmet : goal.returns-clause-unmet
returns-clause-unmet g c = c.loop-demand.invariant.order

pub returns-clause-led : goal.returns-clause-led
returns-clause-led g c =
    led_ends c.args.lists.now (asking_of c.args.self.now) c.loop-demand.order.items c.loop-demand.stack.items (nothing_left c.loop-demand.stack.items _ c.in_default.ensures.variant.1 (inl c.loop-demand.stack.ok.0)) c.loop-demand.invariant.led

pub returns-clause-first : goal.returns-clause-first
returns-clause-first g c = first_last c.loop-demand.order.items c.loop-demand.stack.items c.args.first (nothing_left c.loop-demand.stack.items _ c.in_default.ensures.variant.1 (inl c.loop-demand.stack.ok.0)) c.loop-demand.invariant.first
