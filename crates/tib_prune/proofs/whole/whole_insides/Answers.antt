use Rattle.std.proofs.Common.{rules, IsTrue}
use Rattle.tib_inside.specs.Settling.{costs_in}
use Rattle.tib_prune.proofs.Untrimmed.{whole, whole_each, whole_from}
use Rattle.tib_prune.proofs.whole.whole_insides.Goals as goal

pub returns-clause-trimmed : goal.returns-clause-trimmed
returns-clause-trimmed g c =
    let led : IsTrue c.in_ok-leads_to_all.field-0 = search rules in
    let live : IsTrue c.are_all_live.result = search rules in
    whole g.met.S.Semiring.laws c.args.normal.now (costs_in c.in_ok-insides.insides.items) c.in_ok-insides.ensures.insides
    (whole_from g.S.Semiring.product c.args.normal.now c.grammar-grammar.result.now c.rule_list-rules.result.now c.states.result c.in_ok-insides.insides.items c.deref.result.now c.grammar-grammar.ensures.same
    c.rule_list-rules.ensures c.states.ensures c.deref.ensures.value c.is_sound.ensures.start c.is_sound.ensures.range c.is_sound.ensures.leaves (c.in_ok-leads_to_all.ensures led) (c.are_all_live.ensures live))

pub returns-clause-each : goal.returns-clause-each
returns-clause-each g c =
    let led : IsTrue c.in_ok-leads_to_all.field-0 = search rules in
    let live : IsTrue c.are_all_live.result = search rules in
    whole_each g.met.S.Semiring.laws c.args.normal.now (costs_in c.in_ok-insides.insides.items) c.in_ok-insides.ensures.insides
    (whole_from g.S.Semiring.product c.args.normal.now c.grammar-grammar.result.now c.rule_list-rules.result.now c.states.result c.in_ok-insides.insides.items c.deref.result.now c.grammar-grammar.ensures.same
    c.rule_list-rules.ensures c.states.ensures c.deref.ensures.value c.is_sound.ensures.start c.is_sound.ensures.range c.is_sound.ensures.leaves (c.in_ok-leads_to_all.ensures led) (c.are_all_live.ensures live))
