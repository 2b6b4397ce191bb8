use Rattle.std.proofs.Common.{◌∙◌}
use Rattle.tib_apply.specs.Restrictions.{all_labels}
use Rattle.tib_apply.proofs.Gathered.{gathered_once}
use Rattle.tib_apply.proofs.restrictions.Restrictions.new.Goals as goal

pub returns : goal.returns
returns c = c.in_ok-labels.ensures ∙ gathered_once (all_labels c.args.rules.now)
