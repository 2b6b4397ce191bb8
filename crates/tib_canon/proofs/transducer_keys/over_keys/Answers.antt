use Rattle.std.proofs.Common.{◌∙◌, ap, sym, subst, length, map}
use Rattle.std.proofs.lemmas.Result.{IfOk-weaker}
use Rattle.tib_canon.proofs.OverKeys.{states_below, states_apart}
use Rattle.tib_grammar.specs.Renaming.{number_in}
use Rattle.tib_transducer.specs.Range.{AreWithin}
use Rattle.tib_key_edges.specs.Named.{named_transducer_rule}
use Rattle.tib_inside.specs.Renaming.{AreNumbersOf}
use Rattle.tib_canon.proofs.TransducerOverKeys.{over_keys}
use Rattle.tib_canon.proofs.transducer_keys.over_keys.Goals as goal

pub numbers_of-requires-clause-below : goal.numbers_of-requires-clause-below
numbers_of-requires-clause-below g c = states_below g.K.Ord.cmp c.args.order.items c.args.start c.in_ok-states.states.items c.in_ok-states.ensures c.deref.result.now c.deref.ensures.value

pub numbers_of-requires-clause-apart : goal.numbers_of-requires-clause-apart
numbers_of-requires-clause-apart g c = states_apart g.K.Ord.cmp c.args.order.items c.args.start c.in_ok-states.states.items c.in_ok-states.ensures c.deref.result.now c.deref.ensures.value

pub renamed_rules-requires : goal.renamed_rules-requires
renamed_rules-requires g c =
    subst (λ n. AreWithin n c.args.rules.items) (sym (ap length c.deref-2.ensures.value ∙ c.in_ok-numbers.ensures.long ∙ ap length c.deref.ensures.value ∙ c.in_ok-states.ensures.many)) c.requires.within

pub returns : goal.returns
returns g c =
    IfOk-weaker c.renamed_rules.result _ _
    (λ v e. over_keys g.K.Ord.cmp c.args.order.items c.args.start c.in_ok-states.states.items c.in_ok-states.ensures c.in_ok-numbers.numbers.items
    (subst (λ qs. AreNumbersOf qs c.in_ok-numbers.numbers.items) c.deref.ensures.value c.in_ok-numbers.ensures.numbers) c.args.rules.items c.requires.within c.requires.leaves v.items
    (e ∙ ap (λ ns. map (named_transducer_rule (number_in ns)) c.args.rules.items) c.deref-2.ensures.value)) c.renamed_rules.ensures
