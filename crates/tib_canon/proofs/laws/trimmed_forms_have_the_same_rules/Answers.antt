use Rattle.tib_canon.proofs.SameRules.{same_rules}
use Rattle.tib_canon.proofs.laws.trimmed_forms_have_the_same_rules.Goals as goal

pub returns : goal.returns
returns c = same_rules
