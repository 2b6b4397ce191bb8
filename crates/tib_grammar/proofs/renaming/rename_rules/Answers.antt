use Rattle.std.proofs.Common.{ap, ◌∙◌, slice_set, slice_index_or}
use Rattle.std.proofs.lemmas.List.Edits.{map_over_more}
use Rattle.tib_grammar.specs.GrammarOf.{named_rule}
use Rattle.tib_grammar.specs.Renaming.{number_in}
use Rattle.tib_grammar.proofs.renaming.rename_rules.Goals as goal

pub loop-rule-preserved : goal.loop-rule-preserved
loop-rule-preserved c =
    ap (slice_set c.loop-rule.rules c.loop-rule.rule-index) c.rename.ensures
    ∙ map_over_more (named_rule (number_in c.args.numbers.now)) c.args.rules.now c.loop-rule.rules c.loop-rule.rule-index
    (slice_index_or c.loop-rule.rules c.loop-rule.rule-index c.rule-item.result) c.loop-rule-test.true c.loop-rule.invariant
    (ap (slice_index_or c.loop-rule.rules c.loop-rule.rule-index) c.rule-item.is)
