use Rattle.std.proofs.Common.{ℕ, List}
use Rattle.std.specs.Prelude.{Option}
use Rattle.tib_command.specs.Jobs.{meaning}
use Rattle.tib_job.proofs.Reached.{one_file}
use Rattle.tib_job.proofs.job_values.one_of.Goals as goal

pub returns-clause-texts : goal.returns-clause-texts
returns-clause-texts g c =
    let held : List ℕ → Option (List ℕ) = g.F.Files.held c.args.files.now in
    one_file (meaning c.args.job.now) held c.value_in.new.labels g.V.FileValue.kind (g.V.FileValue.value c.in-Ok.value) c.len.ensures.distinct c.in-Ok.ensures.text
