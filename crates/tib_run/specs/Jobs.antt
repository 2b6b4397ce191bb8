-- What is known of a job that words ask for.
use Rattle.std.specs.Prelude.{◌≡◌, ◌≤◌, ◌<◌, length}
use Rattle.tib_command.specs.Jobs.{most_demo, word_count}
use Rattle.tib_command.specs.declared.job.Job.{Job}
use Rattle.tib_command.specs.declared.job.Operation.TheVariants.{Demo}
use Rattle.tib_operations.specs.Made.{IsLimit}
use Rattle.tib_operations.specs.Prune.{IsBeam}

-- It has as many files as its operation takes, and each of its numbers is one that words may name.
pub record IsWellFormed (job : Job) : Type 0 where
  pub files : length job.files.items ≡ word_count job.operation
  pub workers : (1 ≤ job.workers) × (job.workers ≤ 16)
  pub limit : IsLimit job.limit
  pub beam : IsBeam job.beam
  pub some : 0 < job.k
  pub least : job.operation ≡ Demo → 1 ≤ job.demo
  pub most : job.demo ≤ most_demo
