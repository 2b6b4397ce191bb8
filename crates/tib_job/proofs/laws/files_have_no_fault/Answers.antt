use Rattle.tib_job.proofs.Faults.{no_fault}
use Rattle.tib_job.proofs.laws.files_have_no_fault.Goals as goal

pub returns : goal.returns
returns c = no_fault c.faults_have_no_text.ensures c.texts_mean_one.ensures.alone c.one_tree_or_fault.ensures.none
