use Rattle.tib_canon.proofs.OverKeys.{states_below, states_apart, rules_over}
use Rattle.tib_canon.proofs.begin.over_keys.Goals as goal

pub numbers_of-requires-clause-below : goal.numbers_of-requires-clause-below
numbers_of-requires-clause-below g c = states_below g.K.Ord.cmp c.args.order.items c.args.start c.in_ok-states.states.items c.in_ok-states.ensures c.deref.result.now c.deref.ensures.value

pub numbers_of-requires-clause-apart : goal.numbers_of-requires-clause-apart
numbers_of-requires-clause-apart g c = states_apart g.K.Ord.cmp c.args.order.items c.args.start c.in_ok-states.states.items c.in_ok-states.ensures c.deref.result.now c.deref.ensures.value

pub returns : goal.returns
returns g c =
    rules_over g.K.Ord.cmp c.args.order.items c.args.start c.in_ok-states.states.items c.in_ok-states.ensures c.deref.result.now c.in_ok-numbers.numbers.items c.deref-2.result.now c.args.rules.items c.deref_mut.result.now c.rename_rules.new.rules c.args.rules.len
    c.deref.ensures.value c.in_ok-numbers.ensures.numbers c.deref-2.ensures.value c.requires.range c.requires.leaves c.deref_mut.ensures.value c.rename_rules.ensures c.args.rules.ok.0
