use Rattle.std.proofs.Common.{subst, length, List, ℕ}
use Rattle.tib_inside.specs.Settling.{costs_in}
use Rattle.tib_normal.specs.Entries.{AddsEntry}
use Rattle.tib_prune.proofs.Looping.{starts, finishes, context_below, as_long}
use Rattle.tib_trim.proofs.settling.outside_costs.Goals as goal

pub loop-entry-init : goal.loop-entry-init
loop-entry-init g c = record {
  settling = starts g.S.Semiring.product c.args.rules.now (costs_in c.args.insides.now) (length c.args.insides.now) c.in_ok-outsides.outsides.items c.push.new.self c.in_ok-outsides.ensures
      (subst (λ (old : List (ℕ × ℕ)). AddsEntry old (0, 0) c.push.new.self) c.new-agenda.ensures
      (subst (λ (one : ℕ). AddsEntry c.new-agenda.result (one, 0) c.push.new.self) c.one.ensures c.in_ok-push.ensures));
  long = as_long (length c.args.insides.now) c.in_ok-outsides.outsides.items c.in_ok-outsides.ensures;
}

pub settle-requires-clause-state : goal.settle-requires-clause-state
settle-requires-clause-state g c =
    context_below g.met.S.Semiring.laws c.args.rules.now (length c.args.insides.now) c.in-Some.entry.1 c.in-Some.entry.0 c.requires.some c.requires.range
    (c.loop-entry.invariant.settling.contexts c.in-Some.entry c.in-Some.ensures.some.held)

pub returns-clause-outsides : goal.returns-clause-outsides
returns-clause-outsides g c = finishes g.met.S.Semiring.laws c.args.rules.now c.args.insides.now c.loop-entry.outsides.items c.loop-entry.agenda c.in_default.ensures.none c.requires.insides c.loop-entry.invariant.settling
