use Rattle.std.proofs.Common.{◌<◌, length, arith, ap, sym, subst}
use Rattle.std.proofs.lemmas.List.{take_rest}
use Rattle.std.specs.Option.{option_cmp}
use Rattle.tib_lex.specs.Lists.{Each}
use Rattle.tib_grammar.specs.Range.{AreInRange}
use Rattle.tib_canon.specs.Keys.{behind_fresh}
use Rattle.tib_canon.proofs.BehindFresh.{behind_long}
use Rattle.tib_canon.proofs.OverKeys.{states_below, states_apart, behind_many, rules_behind_of}
use Rattle.tib_canon.proofs.begin.over_behind_fresh.Goals as goal

pub numbers_of-requires-clause-few : goal.numbers_of-requires-clause-few
numbers_of-requires-clause-few g c = omega (arith, ap length c.deref.ensures.value, c.in_ok-states.ensures.many, behind_long c.args.order.items, c.requires.few)

pub numbers_of-requires-clause-below : goal.numbers_of-requires-clause-below
numbers_of-requires-clause-below g c = states_below (option_cmp g.K.Ord.cmp) (behind_fresh c.args.order.items) 0 c.in_ok-states.states.items c.in_ok-states.ensures c.deref.result.now c.deref.ensures.value

pub numbers_of-requires-clause-apart : goal.numbers_of-requires-clause-apart
numbers_of-requires-clause-apart g c = states_apart (option_cmp g.K.Ord.cmp) (behind_fresh c.args.order.items) 0 c.in_ok-states.states.items c.in_ok-states.ensures c.deref.result.now c.deref.ensures.value

pub rename_rules-requires : goal.rename_rules-requires
rename_rules-requires g c =
    let many =
    behind_many g.K.Ord.cmp c.args.order.items c.in_ok-states.states.items c.in_ok-states.ensures c.deref.result.now c.in_ok-numbers.numbers.items c.deref-2.result.now _ c.deref.ensures.value c.in_ok-numbers.ensures.long c.deref-2.ensures.value
    (take_rest c.deref-2.result.now 1) in
    subst (λ n. AreInRange n c.deref_mut.result.now) (sym many) (subst (AreInRange (length c.args.order.items)) (sym c.deref_mut.ensures.value) c.requires.range)

pub chain_rules-requires : goal.chain_rules-requires
chain_rules-requires g c =
    let many =
    behind_many g.K.Ord.cmp c.args.order.items c.in_ok-states.states.items c.in_ok-states.ensures c.deref.result.now c.in_ok-numbers.numbers.items c.deref-2.result.now _ c.deref.ensures.value c.in_ok-numbers.ensures.long c.deref-2.ensures.value
    (take_rest c.deref-2.result.now 1) in
    subst (λ n. Each (λ final. final.0 < n) c.pairs.result.now) (sym many) (subst (Each (λ final. final.0 < length c.args.order.items)) (sym c.pairs.ensures) c.requires.within)

pub returns : goal.returns
returns g c =
    rules_behind_of g.K.Ord.cmp c.args.order.items c.in_ok-states.states.items c.in_ok-states.ensures c.deref.result.now c.in_ok-numbers.numbers.items c.deref-2.result.now _ c.args.finals c.pairs.result.now c.args.rules.items c.deref_mut.result.now
    c.rename_rules.new.rules c.in_ok-started.started.items c.append.new.self.items c.args.rules.len c.deref.ensures.value c.in_ok-numbers.ensures.numbers c.deref-2.ensures.value (take_rest c.deref-2.result.now 1) c.requires.within c.requires.range
    c.requires.leaves c.deref_mut.ensures.value c.rename_rules.ensures c.args.rules.ok.0 c.pairs.ensures c.in_ok-started.ensures c.in_ok-append.ensures.items
