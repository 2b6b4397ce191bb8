use Rattle.std.proofs.Common.{ℕ, ◌<◌, List, length, subst, sym}
use Rattle.tib_transducer.specs.Range.{IsShaped}
use Rattle.tib_transducer.specs.Rules.{transducer_rule, no_rule}
use Rattle.tib_transducer.specs.declared.TransducerRule.{TransducerRule}
use Rattle.tib_key_edges.proofs.Places.{all_from}
use Rattle.tib_image.proofs.operation.Image.new.Goals as goal

pub index_rules-requires-clause-shaped : goal.index_rules-requires-clause-shaped
index_rules-requires-clause-shaped g c =
    all_from IsShaped c.rule_list.result.now no_rule
    (subst (λ (rs : List (TransducerRule ℕ)). (n : ℕ) → n < length rs → IsShaped (transducer_rule rs n)) (sym c.rule_list.ensures) c.is_sound.ensures.shaped)
