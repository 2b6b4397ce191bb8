use Rattle.tib_tree.proofs.TreesText.{one_meaning, not_both}
use Rattle.tib_tree.proofs.laws.texts_mean_one.Goals as goal

pub returns-clause-one : goal.returns-clause-one
returns-clause-one c = one_meaning

pub returns-clause-alone : goal.returns-clause-alone
returns-clause-alone c = not_both
