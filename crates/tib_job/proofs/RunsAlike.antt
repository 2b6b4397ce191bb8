-- Two runs of one job end alike, by the promise of a run.
use Rattle.std.specs.Prelude.{ℕ, List, Option, Some}
use Rattle.std.proofs.Common.{subst}
use Rattle.tib_command.specs.Jobs.{Asked}
use Rattle.tib_operations.specs.declared.status.Status.{Status}
use Rattle.tib_job.specs.Answers.{IsCalm, EndsCalmly}
use Rattle.tib_io.specs.Writes.{SinkSeen}
use Rattle.tib_job.specs.Run.{FilesSeen, IsRunOf, RunsEndAlike}
use Rattle.tib_job.proofs.FilesAsked.{files_asked}
use Rattle.tib_job.proofs.OneStatus.{one_status}

-- a run in which no count rises ends calmly
ends :
    (asked : Asked) (before after : FilesSeen) (old new : SinkSeen) (status : Status) → IsCalm asked before.faults after.faults old.faults new.faults →
    IsRunOf (Some asked) before after old new status → EndsCalmly asked before.held status
ends asked before after old new status calm run = record {
  before = before.faults;
  now = after.faults;
  out_before = old.faults;
  out_now = new.faults;
  calm = calm;
  cause = run.cause;
  earlier = run.earlier;
  text = λ e. let t = run.text e in (t.text, t.answers);
}

pub runs_alike : RunsEndAlike
runs_alike words asked before after others later old new first last one other is told same calm calmly run again =
    let second : EndsCalmly asked others.held other = ends asked others later first last other calmly again in
    one_status asked before.held told (files_asked words asked is) one other (ends asked before after old new one calm run)
    (subst (λ (held : List ℕ → Option (List ℕ)). EndsCalmly asked held other) same second)
