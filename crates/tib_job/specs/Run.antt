-- What a run promises of its files, its output and its log.
use Rattle.std.specs.Prelude.{◌≡◌, ℕ, ◌<◌, ◌≤◌, Bool, true, false, List, length, Option, Some, None}
use Rattle.tib_io.specs.Causes.{GoesOn, last_count}
use Rattle.tib_io.specs.Writes.{SinkSeen, Takes, TakesFront, Calm}
use Rattle.tib_command.specs.Jobs.{Asked, job_of}
use Rattle.tib_operations.specs.declared.status.Status.{Status}
use Rattle.tib_operations.specs.declared.status.Status.TheVariants as statuses
use Rattle.tib_job.specs.Answers.{IsAnswer, IsComplete, StandsStill, AreTold, IsCalm, AreOneStatus}
use Rattle.tib_job.specs.Causes.{HasCause, HasEarlier}

-- what is seen of files: their bytes, where these are known, the names of which no read fails, and
-- how often reads of a name failed
pub record FilesSeen : Type 0 where
  pub held : List ℕ → Option (List ℕ)
  pub sure : List ℕ → Bool
  pub faults : List ℕ → ℕ

abbrev pub files_seen : {F : Type 0} → (F → List ℕ → Option (List ℕ)) → (F → List ℕ → Bool) → (F → List ℕ → ℕ) → F → FilesSeen
files_seen held sure faults files = record { held = held files; sure = sure files; faults = faults files }

-- the sink took such a text, and its room fell by the text's length
pub record TakesText (IsText : List ℕ → Type 0) (old new : SinkSeen) : Type 0 where
  pub text : List ℕ
  pub answers : IsText text
  pub taken : Takes old new text

-- the sink took a front of such a text, and its room fell by the front's length
pub record TakesFrontOfText (IsText : List ℕ → Type 0) (old new : SinkSeen) : Type 0 where
  pub text : List ℕ
  pub answers : IsText text
  pub front : TakesFront old new text

-- the output took an answer of the job
abbrev pub TakesAnswer : Option Asked → (List ℕ → Option (List ℕ)) → SinkSeen → SinkSeen → Type 0
TakesAnswer None held old new = ⊥
TakesAnswer (Some asked) held old new = TakesText (IsAnswer asked held) old new

-- the output took a front of an answer of the job
abbrev pub TakesFrontOfAnswer : Option Asked → (List ℕ → Option (List ℕ)) → SinkSeen → SinkSeen → Type 0
TakesFrontOfAnswer None held old new = ⊥
TakesFrontOfAnswer (Some asked) held old new = TakesFrontOfText (IsAnswer asked held) old new

-- after every status but Done and WriteFault the whole output is as it was: its bytes, its room,
-- its count, and whether it is finished
abbrev pub IsUntouched : Status → SinkSeen → SinkSeen → Type 0
IsUntouched statuses.Done old new = Unit {0}
IsUntouched statuses.WriteFault old new = Unit {0}
IsUntouched status old new = new ≡ old

-- What a run promises that ends with this status. `job` is what its words ask for, and none where
-- they are no command.
pub record IsRunOf (job : Option Asked) (before after : FilesSeen) (old new : SinkSeen) (status : Status) : Type 0 where
  -- the status comes only with its cause
  pub cause : HasCause job before.held before.faults after.faults old.faults new.faults status
  -- the files before the one that it names are of their kinds
  pub earlier : HasEarlier job before.held status
  -- where it is Done, the output took an answer, whole
  pub text : status ≡ statuses.Done → TakesAnswer job before.held old new
  -- and is finished
  pub finished : status ≡ statuses.Done → new.finished ≡ true
  -- and did not fail
  pub steady : status ≡ statuses.Done → new.faults ≡ old.faults
  -- where it is WriteFault, the output took a front of an answer
  pub front : status ≡ statuses.WriteFault → TakesFrontOfAnswer job before.held old new
  -- and is not finished
  pub unfinished : status ≡ statuses.WriteFault → new.finished ≡ false
  -- else nothing of the output changed
  pub untouched : IsUntouched status old new
  -- the output's count of faults does not fall
  pub later : old.faults ≤ new.faults
  -- and does not change where there is room for every answer
  pub still : StandsStill job before.held old.free old.faults new.faults
  -- the files report the same bytes
  pub held : after.held ≡ before.held
  -- the same names are sure
  pub sure : after.sure ≡ before.sure
  -- no count of the files falls, and that of a sure name does not change
  pub counts : GoesOn before.sure before.faults after.faults
  -- a job that can be answered is answered
  pub complete : IsComplete job before.held before.faults after.faults old.faults new.faults status

-- What a run promises of its log, which this line goes to.
pub record IsLogged (line : List ℕ) (old new : SinkSeen) : Type 0 where
  -- the log took a front of the line, and its room fell by the front's length
  pub front : TakesFront old new line
  -- the whole line where its count, below the last value, does not change
  pub whole : old.faults < last_count → new.faults ≡ old.faults → Takes old new line
  -- the log's count of faults does not fall
  pub later : old.faults ≤ new.faults
  -- and does not change where there is room for the line
  pub still : Calm old.free (length line) old.faults new.faults
  -- the log is not finished: it is unfinished if it was, once a byte was written, and after a fault
  pub unfinished : old.finished ≡ false → new.finished ≡ false
  pub written : 0 < length line → new.finished ≡ false
  pub broken : (new.faults ≡ old.faults → ⊥) → new.finished ≡ false

-- two runs on the same words, over files that report the same bytes, in which no count rises, end
-- with one status
abbrev pub RunsEndAlike : Type 0
RunsEndAlike =
    (words : List (List ℕ)) (asked : Asked) (before after others later : FilesSeen) (old new first last : SinkSeen) (one other : Status) →
    job_of words ≡ Some asked → AreTold asked before.held → others.held ≡ before.held →
    IsCalm asked before.faults after.faults old.faults new.faults → IsCalm asked others.faults later.faults first.faults last.faults →
    IsRunOf (Some asked) before after old new one → IsRunOf (Some asked) others later first last other → AreOneStatus asked.task.operation one other
