use Rattle.std.proofs.Common.{sym, subst, ◌∙◌}
use Rattle.tib_transducer.specs.Rules.{no_rule}
use Rattle.tib_key_edges.specs.Positions.{IsIndex}
use Rattle.tib_key_edges.proofs.Places.{all_from}
use Rattle.tib_compose.specs.Readers.{AreFlat, IsFlat, has_shape}
use Rattle.tib_compose.proofs.Meeting.{flat_from, below_from}
use Rattle.tib_compose.proofs.Reading.{readers_there}
use Rattle.tib_compose.proofs.composite.Composite.new.Goals as goal

pub index_rules-requires-clause-shaped : goal.index_rules-requires-clause-shaped
index_rules-requires-clause-shaped g c =
    all_from IsFlat c.rule_list.result.now no_rule
    (subst AreFlat (sym c.rule_list.ensures) (flat_from c.args.second.now.rules c.is_sound-2.ensures.shaped (c.first_outside.ensures.none c.in_default.is)))

pub invariant_of-result : goal.invariant_of-result
invariant_of-result g c = record {
  indexed = λ s. subst (λ rules. IsIndex has_shape rules c.in-Ok-index_rules.index) c.rule_list.ensures c.in-Ok-index_rules.ensures s ∙ readers_there c.args.second.now.rules s;
  moved = c.in-Ok.ensures;
  first_start = c.is_sound.ensures.start;
  second_start = c.is_sound-2.ensures.start;
  first_range = below_from _ c.args.first.now.rules c.is_sound.ensures.range;
  second_range = below_from _ c.args.second.now.rules c.is_sound-2.ensures.range;
}
