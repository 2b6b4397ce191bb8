use Rattle.std.proofs.Common.{ℕ, List}
use Rattle.std.specs.Prelude.{Option, Some}
use Rattle.tib_command.specs.Jobs.{meaning}
use Rattle.tib_job.specs.Causes.{scale_of}
use Rattle.tib_job.proofs.Reached.{before_second, two_files}
use Rattle.tib_job.proofs.ReadValues.{printable_grown}
use Rattle.tib_job.proofs.Steps.{ends_later}
use Rattle.tib_job.proofs.job_values.two_of.Goals as goal

pub returns-in-Err-value_in-clause-status : goal.returns-in-Err-value_in-clause-status
returns-in-Err-value_in-clause-status g c =
    ends_later (Some (meaning c.args.job.now)) 2 _ _ _ c.in-Err-value_in.status
    (before_second (meaning c.args.job.now) (g.F.Files.held c.args.files.now) c.value_in.new.labels g.V.FileValue.kind g.W.FileValue.kind (g.V.FileValue.value c.in-Ok.first) c.requires.kinds c.in-Ok.ensures.text)
    c.in-Ok.ensures.files c.in-Err-value_in.ensures.status

pub returns-clause-texts : goal.returns-clause-texts
returns-clause-texts g c =
    let held : List ℕ → Option (List ℕ) = g.F.Files.held c.args.files.now in
    two_files (meaning c.args.job.now) held (g.F.Files.held c.value_in.new.files) c.value_in.new.labels c.value_in-2.new.labels g.V.FileValue.kind g.W.FileValue.kind (g.V.FileValue.value c.in-Ok.first) (g.W.FileValue.value c.in-Ok-value_in.second)
    c.len.ensures.distinct c.in-Ok-value_in.ensures.grows c.in-Ok.ensures.files.held c.in-Ok.ensures.text c.in-Ok-value_in.ensures.text

pub returns-clause-printable : goal.returns-clause-printable
returns-clause-printable g c = (
  printable_grown c.value_in.new.labels c.value_in-2.new.labels c.in-Ok-value_in.ensures.grows (scale_of c.args.job.now.mode) g.V.FileValue.kind (g.V.FileValue.value c.in-Ok.first) c.in-Ok.ensures.printable,
  c.in-Ok-value_in.ensures.printable,
)
