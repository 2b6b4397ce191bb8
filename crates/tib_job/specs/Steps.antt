-- What a step of a run promises: what it leaves of the files and of the output, and what the status
-- says with which the run ends there.
use Rattle.std.specs.Prelude.{◌≡◌, ◌≤◌, ◌⊎◌, ℕ, true, false, List, length, Option, Result, Ok, Err}
use Rattle.tib_io.specs.Causes.{GoesOn, Rose}
use Rattle.tib_io.specs.Memory.{SinkThatGrows}
use Rattle.tib_io.specs.Writes.{SinkSeen, Takes, TakesFront, Calm}
use Rattle.tib_command.specs.Jobs.{Asked}
use Rattle.tib_operations.specs.declared.status.Status.{Status}
use Rattle.tib_operations.specs.declared.status.Status.TheVariants as statuses
use Rattle.tib_job.specs.Causes.{HasCause, HasEarlier, IsAbout, IsEarly}
pub use Rattle.tib_job.specs.Run.{FilesSeen, files_seen}

-- What a step leaves of the files.
pub record LeavesFiles (before after : FilesSeen) : Type 0 where
  -- they report the same bytes
  pub held : after.held ≡ before.held
  -- the same names are sure
  pub sure : after.sure ≡ before.sure
  -- no count falls, and that of a sure name does not change
  pub counts : GoesOn before.sure before.faults after.faults

-- What the status says with which the run of a job ends before anything is written.
pub record EndsRun (job : Option Asked) (before after : FilesSeen) (status : Status) : Type 0 where
  -- it comes only with its cause; no count of the output rises
  pub cause : HasCause job before.held before.faults after.faults 0 0 status
  -- the files before the one that it names are of their kinds
  pub earlier : HasEarlier job before.held status
  -- it is one that comes before anything is written
  pub early : IsEarly status

-- What the status says with which the run of a job ends while this file is read.
pub record StopsAtFile (job : Option Asked) (file : ℕ) (before after : FilesSeen) (status : Status) : Type 0 where
  -- it comes only with its cause; no count of the output rises
  pub cause : HasCause job before.held before.faults after.faults 0 0 status
  -- it names this file, or is `OutOfMemory`
  pub about : IsAbout file status

-- the run is done: the text was taken whole, and the output is finished and did not fail
pub record HasWritten (text : List ℕ) (old new : SinkSeen) (status : Status) : Type 0 where
  pub is_done : status ≡ statuses.Done
  pub taken : Takes old new text
  pub finished : new.finished ≡ true
  pub steady : new.faults ≡ old.faults

-- the output failed after a front of the text, and is not finished
pub record HasWrittenFront (text : List ℕ) (old new : SinkSeen) (status : Status) : Type 0 where
  pub is_fault : status ≡ statuses.WriteFault
  pub front : TakesFront old new text
  pub rose : Rose old.faults new.faults
  pub unfinished : new.finished ≡ false

-- What the writing of a text promises, after which the run ends with this status.
pub record IsWritten (text : List ℕ) (old new : SinkSeen) (status : Status) : Type 0 where
  -- the text was taken whole, or a front of it
  pub done : HasWritten text old new status ⊎ HasWrittenFront text old new status
  -- the count of faults does not fall
  pub later : old.faults ≤ new.faults
  -- and does not change where there is room for the text
  pub still : Calm old.free (length text) old.faults new.faults

-- a text is written, or the run ends with the status that is there in its place
abbrev pub WritesOutcome : Result SinkThatGrows Status → SinkSeen → SinkSeen → Status → Type 0
WritesOutcome (Ok text) old new status = IsWritten text.bytes old new status
WritesOutcome (Err own) old new status = (own ≡ status) × (old ≡ new)
