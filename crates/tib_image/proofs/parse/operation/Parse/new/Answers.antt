use Rattle.std.proofs.Common.{ap, ◌∙◌, List, ℕ, length, arith}
use Rattle.tib_strings.specs.declared.StringRule.{StringRule}
use Rattle.tib_image.specs.Restrictions.{restricted_labels}
use Rattle.tib_image.specs.ParseLaws.{states_below}
use Rattle.tib_image.proofs.parse.operation.Parse.new.Goals as goal

pub invariant_of-result : goal.invariant_of-result
invariant_of-result g c = record {
  numbered = c.in-Ok.ensures ∙ ap (λ (rs : List (StringRule ℕ)). restricted_labels rs) c.rule_list.ensures;
  indexed = c.in-Ok-new.ensures;
  few = omega (arith, c.if-string-gt4294967295.false);
  start = c.is_sound.ensures.start;
  range = states_below (length c.args.transducer.now.names) c.args.transducer.now.rules c.is_sound.ensures.range;
}
