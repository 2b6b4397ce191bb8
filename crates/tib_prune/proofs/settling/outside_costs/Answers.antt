use Rattle.std.proofs.Common.{subst, ◌∙◌, ◌<◌, length, List, ℕ}
use Rattle.tib_grammar.specs.GrammarOf.{GrammarOf}
use Rattle.tib_grammar.specs.Range.{AreInRange}
use Rattle.tib_inside.specs.Settling.{costs_in}
use Rattle.tib_normal.specs.Entries.{AddsEntry}
use Rattle.tib_prune.proofs.Looping.{starts, finishes, context_below, as_long}
use Rattle.tib_prune.proofs.settling.outside_costs.Goals as goal

pub loop-entry-init : goal.loop-entry-init
loop-entry-init g c = record {
  settling = starts g.S.Semiring.product c.args.normal.now.rules (costs_in c.args.insides.now) (length c.args.insides.now) c.in_ok-outsides.outsides.items c.push.new.self c.in_ok-outsides.ensures
      (subst (λ (old : List (ℕ × ℕ)). AddsEntry old (0, 0) c.push.new.self) c.new-agenda.ensures
      (subst (λ (one : ℕ). AddsEntry c.new-agenda.result (one, 0) c.push.new.self) c.one.ensures c.in_ok-push.ensures));
  long = as_long (length c.args.insides.now) c.in_ok-outsides.outsides.items c.in_ok-outsides.ensures ∙ c.requires.states;
}

pub settle-requires-clause-normal : goal.settle-requires-clause-normal
settle-requires-clause-normal g c = c.grammar.ensures.normal.normal

pub settle-requires-clause-state : goal.settle-requires-clause-state
settle-requires-clause-state g c =
    context_below g.met.S.Semiring.laws c.args.normal.now.rules (length c.args.normal.now.names) c.in-Some.entry.1 c.in-Some.entry.0
    (subst (λ (n : GrammarOf). 0 < length n.names) c.grammar.ensures.same c.is_sound.ensures.start)
    (subst (λ (n : GrammarOf). AreInRange (length n.names) n.rules) c.grammar.ensures.same c.is_sound.ensures.range)
    (c.loop-entry.invariant.settling.contexts c.in-Some.entry c.in-Some.ensures.some.held)

pub returns-clause-outsides : goal.returns-clause-outsides
returns-clause-outsides g c = finishes g.met.S.Semiring.laws c.args.normal.now.rules c.args.insides.now c.loop-entry.outsides.items c.loop-entry.agenda c.in_default.ensures.none c.requires.insides c.loop-entry.invariant.settling
