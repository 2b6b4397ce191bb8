use Rattle.std.proofs.Common.{◌≡◌, [], drop}
use Rattle.tib_apply.specs.Restrictions.{all_labels}
use Rattle.tib_apply.specs.Gathering.{gathered}
use Rattle.tib_apply.proofs.restrictions.labels_of_rules.Given as goal

abbrev pub invariant-loop-rule : goal.invariant-loop-rule
invariant-loop-rule l = gathered l.labels.keys (all_labels (drop l.rule-index l.rules)) ≡ gathered [] (all_labels l.rules)
