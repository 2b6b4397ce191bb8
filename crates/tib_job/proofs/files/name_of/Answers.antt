use Rattle.std.proofs.Common.{arith, ◌-◌}
use Rattle.std.specs.String.{string_bytes}
use Rattle.tib_command.specs.Jobs.{meaning}
use Rattle.tib_job.proofs.Reached.{name_at, file_named}
use Rattle.tib_job.proofs.files.name_of.Goals as goal

pub returns : goal.returns
returns c =
    file_named (meaning c.args.job.now) c.args.file c.as_str.result.now c.requires.from
    (rw c.as_str.ensures.value (name_at (λ s. string_bytes s) c.args.job.now.files.items (c.args.file - 1) c.index.result.now (omega (arith, c.requires.from, c.requires.to)) c.index.ensures))
