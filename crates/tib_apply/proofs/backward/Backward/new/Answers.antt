use Rattle.std.proofs.Common.{◌<◌, ap, subst, ◌∙◌, length, List, ℕ}
use Rattle.tib_grammar.proofs.Below.{states_below}
use Rattle.tib_transducer.specs.declared.TransducerRule.{TransducerRule}
use Rattle.tib_apply.specs.Restrictions.{restricted_labels}
use Rattle.tib_apply.proofs.backward.Backward.new.Goals as goal

pub invariant_of-result : goal.invariant_of-result
invariant_of-result g c = record {
  numbered = c.in-Ok.ensures ∙ ap (λ (rs : List (TransducerRule ℕ)). restricted_labels rs) c.rule_list.ensures;
  indexed = c.in-Ok-new.ensures;
  start = subst (λ n. 0 < length n.names) c.grammar.ensures.same c.is_sound.ensures.start;
  range = states_below c.grammar.result.now c.args.grammar.now c.grammar.ensures.same c.is_sound.ensures.range;
}
