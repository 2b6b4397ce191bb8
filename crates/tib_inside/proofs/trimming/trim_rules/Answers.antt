use Rattle.tib_inside.proofs.Assembling.{IsMade, made_of}
use Rattle.tib_inside.proofs.trimming.trim_rules.Given.{Over}
use Rattle.tib_inside.proofs.trimming.trim_rules.Goals as goal

facts : (g : Over) (c : goal.After-drop-costs-2 g) → IsMade g.S.Semiring.product c.args.rules.items c.args.states c.in_ok-kept.kept.states.items c.in_ok-moved.moved.items
facts g c =
    made_of g.met.S.Semiring.laws c.args.rules.items c.deref.result.now c.deref-2.result.now c.in_ok-costs.costs.items c.deref-3.result.now c.args.states c.in_ok-kept.kept.states.items c.deref-4.result.now c.in_ok-kept.kept.rules.items c.deref-5.result.now
    c.in_ok-numbers.numbers.items c.deref-6.result.now c.in_ok-moved.moved.items c.requires.range c.in_ok-costs.ensures.length c.in_ok-costs.ensures.insides c.deref.ensures.value c.in_ok-kept.ensures.kept c.deref-2.ensures.value c.deref-3.ensures.value
    c.in_ok-numbers.ensures.numbers c.deref-4.ensures.value c.in_ok-moved.ensures c.deref-5.ensures.value c.deref-6.ensures.value

pub returns-clause-trimmed : goal.returns-clause-trimmed
returns-clause-trimmed g c = (facts g c).trimmed

pub returns-clause-series : goal.returns-clause-series
returns-clause-series g c = (facts g c).series

pub returns-clause-each : goal.returns-clause-each
returns-clause-each g c = (facts g c).each

pub returns-clause-states : goal.returns-clause-states
returns-clause-states g c = (facts g c).some_states

pub returns-clause-range : goal.returns-clause-range
returns-clause-range g c = (facts g c).range

pub returns-clause-few : goal.returns-clause-few
returns-clause-few g c = (facts g c).few
