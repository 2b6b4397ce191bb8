use Rattle.std.proofs.Common.{arith, ◌∙◌}
use Rattle.tib_inside.proofs.Following.{reach_on, reach_end, popped_below}
use Rattle.tib_inside.proofs.reaching.reach.Goals as goal

pub follow-requires-clause-state : goal.follow-requires-clause-state
follow-requires-clause-state c = popped_below c.args.rules.now c.args.live.now c.loop-state.kept.items c.in-Some.state c.loop-state.stack.items c.pop.new.self.items c.in-Some.ensures.items c.loop-state.invariant.reaching

pub loop-state-preserved : goal.loop-state-preserved
loop-state-preserved c = record {
  long = c.in_ok-follow.ensures.long ∙ c.loop-state.invariant.long;
  reaching = reach_on c.args.rules.now c.args.live.now c.loop-state.kept.items c.follow.new.kept.items c.in-Some.state c.loop-state.stack.items c.pop.new.self.items c.follow.new.stack.items c.in-Some.ensures.items c.loop-state.invariant.reaching c.in_ok-follow.ensures.marks;
}

pub returns-clause-reached : goal.returns-clause-reached
returns-clause-reached c = reach_end c.args.rules.now c.args.live.now c.loop-state.kept.items c.loop-state.stack.items (omega (arith, c.in_default.ensures.cases.0, c.loop-state.stack.ok.0)) c.loop-state.invariant.reaching
