-- Steps of a run put together: what they leave of the files, and with which status the run ends.
use Rattle.std.specs.Prelude.{ℕ, List, Option, refl}
use Rattle.std.proofs.Common.{subst, arith}
use Rattle.tib_command.specs.Jobs.{Asked}
use Rattle.tib_operations.specs.declared.status.Status.{Status}
use Rattle.tib_operations.specs.declared.status.Status.TheVariants as statuses
use Rattle.tib_job.specs.Causes.{HasCause, AreBefore}
use Rattle.tib_job.specs.Run.{FilesSeen}
use Rattle.tib_job.specs.Steps.{LeavesFiles, EndsRun, StopsAtFile}
use Rattle.tib_job.proofs.Reached.{about_early, about_earlier, cause_earlier}

-- a step that reads nothing
pub leaves_all : (files : FilesSeen) → LeavesFiles files files
leaves_all files = record { held = refl; sure = refl; counts = record { later = λ name. omega arith; calm = λ name sure below. refl } }

-- out of memory
pub ends_short : (job : Option Asked) (before after : FilesSeen) → EndsRun job before after statuses.OutOfMemory
ends_short job before after = record { cause = tt; earlier = tt; early = tt }

-- the run ends at a file, where those before it are of their kinds
pub ends_later :
    (job : Option Asked) (file : ℕ) (before middle after : FilesSeen) (s : Status) → AreBefore job before.held file → LeavesFiles before middle → StopsAtFile job file middle after s →
    EndsRun job before after s
ends_later job file before middle after s are left stop =
    let here : HasCause job before.held middle.faults after.faults 0 0 s =
    subst (λ (held : List ℕ → Option (List ℕ)). HasCause job held middle.faults after.faults 0 0 s) left.held stop.cause in
    record {
      cause = cause_earlier job before.held before.faults middle.faults after.faults 0 0 s left.counts.later here;
      earlier = about_earlier job before.held file s stop.about are;
      early = about_early file s stop.about;
    }
