use Rattle.tib_job.proofs.FilesAsked.{files_asked}
use Rattle.tib_job.proofs.OneStatus.{one_status}
use Rattle.tib_job.proofs.laws.statuses_are_one.Goals as goal

pub returns : goal.returns
returns c words asked held one other is told a b = one_status asked held told (files_asked words asked is) one other a b
