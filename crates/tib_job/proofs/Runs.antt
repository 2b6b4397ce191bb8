-- The promise of a run, for each way in which it ends.
use Rattle.tib_cost.specs.declared.Scale.{Scale}
use Rattle.std.specs.Prelude.{◌≡◌, ℕ, ◌≤◌, Bool, true, false, List, length, Option, Some, None, Result, Ok, Err, IfOk, IfErr, refl}
use Rattle.std.proofs.Common.{arith, subst, sym, inl, inr}
use Rattle.tib_io.specs.Causes.{Rose}
use Rattle.tib_io.specs.Memory.{SinkThatGrows}
use Rattle.tib_io.specs.Pieces.{front_whole}
use Rattle.tib_io.specs.Writes.{SinkSeen, Takes, TakesFront, Calm}
use Rattle.tib_io.specs.Writing.{is_calm}
use Rattle.tib_io.specs.Wrote.{Wrote}
use Rattle.tib_command.specs.Jobs.{Asked}
use Rattle.tib_operations.specs.declared.status.Status.{Status}
use Rattle.tib_operations.specs.declared.status.Status.TheVariants as statuses
use Rattle.tib_job.specs.Answers.{IsAnswer, StandsStill, WithinIsNotTooMuch}
use Rattle.tib_job.specs.Causes.{HasCause, IsEarly, bytes_of, levelled_of, product_of, scale_of}
use Rattle.tib_job.specs.Kinds.{KindsHaveNoFault}
use Rattle.tib_job.specs.Outcomes.{IsOutcome, setting_of}
use Rattle.tib_job.specs.Run.{FilesSeen, IsUntouched, IsRunOf, IsLogged}
use Rattle.tib_job.specs.Steps.{LeavesFiles, EndsRun, WritesOutcome}
use Rattle.tib_job.specs.Values.{AreValuesOf}
use Rattle.tib_job.specs.declared.job_values.Values.{Values}
use Rattle.tib_job.proofs.Complete.{complete}
use Rattle.tib_job.proofs.Outcomes.{outcome_answers, outcome_ends}
use Rattle.tib_job.proofs.Steps.{leaves_all, ends_short}

-- what ends before anything is written

not_done : (s : Status) → IsEarly s → s ≡ statuses.Done → ⊥
not_done s h e = let r : IsEarly statuses.Done = subst IsEarly e h in r

not_fault : (s : Status) → IsEarly s → s ≡ statuses.WriteFault → ⊥
not_fault s h e = let r : IsEarly statuses.WriteFault = subst IsEarly e h in r

as_it_was : (s : Status) (out : SinkSeen) → IsUntouched s out out
as_it_was statuses.Done out = tt
as_it_was statuses.WriteFault out = tt
as_it_was s out = refl

early_cause : (job : Option Asked) (held : List ℕ → Option (List ℕ)) (before now : List ℕ → ℕ) (a b : ℕ) (s : Status) → IsEarly s → HasCause job held before now 0 0 s → HasCause job held before now a b s
early_cause job held before now a b statuses.Done e h = absurd e
early_cause job held before now a b statuses.WriteFault e h = absurd e
early_cause job held before now a b s e h = h

stays : (job : Option Asked) (held : List ℕ → Option (List ℕ)) (free : Option ℕ) (a : ℕ) → StandsStill job held free a a
stays None held free a = refl
stays (Some asked) held free a = λ below room. refl

module _ (no_fault : KindsHaveNoFault) (apart : WithinIsNotTooMuch) where
  pub ended :
      (job : Option Asked) (before after : FilesSeen) (out : SinkSeen) (s : Status) → EndsRun job before after s → LeavesFiles before after → IsRunOf job before after out out s
  ended job before after out s ends left =
      let own = early_cause job before.held before.faults after.faults out.faults out.faults s ends.early ends.cause in
      record {
        cause = own;
        earlier = ends.earlier;
        text = λ e. absurd (not_done s ends.early e);
        finished = λ e. absurd (not_done s ends.early e);
        steady = λ e. absurd (not_done s ends.early e);
        front = λ e. absurd (not_fault s ends.early e);
        unfinished = λ e. absurd (not_fault s ends.early e);
        untouched = as_it_was s out;
        later = omega arith;
        still = stays job before.held out.free out.faults;
        held = left.held;
        sure = left.sure;
        counts = left.counts;
        complete = complete no_fault apart job before.held before.faults after.faults out.faults out.faults s own;
      }

  -- the files were not read

  pub no_memory : (job : Option Asked) (files : FilesSeen) (out : SinkSeen) → IsRunOf job files files out out statuses.OutOfMemory
  no_memory job files out = ended job files files out statuses.OutOfMemory (ends_short job files files) (leaves_all files)

  pub no_command : (job : Option Asked) (files : FilesSeen) (out : SinkSeen) → job ≡ None → IsRunOf job files files out out statuses.Usage
  no_command job files out none = record {
    cause = none;
    earlier = tt;
    text = λ e. absurd (cc);
    finished = λ e. absurd (cc);
    steady = λ e. absurd (cc);
    front = λ e. absurd (cc);
    unfinished = λ e. absurd (cc);
    untouched = refl;
    later = omega arith;
    still = stays job files.held out.free out.faults;
    held = refl;
    sure = refl;
    counts = (leaves_all files).counts;
    complete = complete no_fault apart job files.held files.faults files.faults out.faults out.faults statuses.Usage none;
  }

  -- what ends with an answer, or a front of one

  stands : (asked : Asked) (held : List ℕ → Option (List ℕ)) (free : Option ℕ) (a b : ℕ) (text : List ℕ) → IsAnswer asked held text → Calm free (length text) a b → StandsStill (Some asked) held free a b
  stands asked held None a b text answers calm = λ below room. absurd (room text answers)
  stands asked held (Some n) a b text answers calm = λ below room. calm (room text answers) below

  module _
      (asked : Asked) (before after : FilesSeen) (old new : SinkSeen) (text : List ℕ) (answers : IsAnswer asked before.held text) (later : old.faults ≤ new.faults)
      (calm : Calm old.free (length text) old.faults new.faults) (left : LeavesFiles before after) where
    pub answered : Takes old new text → new.finished ≡ true → new.faults ≡ old.faults → IsRunOf (Some asked) before after old new statuses.Done
    answered taken finished steady = record {
      cause = refl;
      earlier = tt;
      text = λ e. record { text = text; answers = answers; taken = taken };
      finished = λ e. finished;
      steady = λ e. steady;
      front = λ e. absurd (cc);
      unfinished = λ e. absurd (cc);
      untouched = tt;
      later = later;
      still = stands asked before.held old.free old.faults new.faults text answers calm;
      held = left.held;
      sure = left.sure;
      counts = left.counts;
      complete = complete no_fault apart (Some asked) before.held before.faults after.faults old.faults new.faults statuses.Done refl;
    }

    pub cut_short : TakesFront old new text → Rose old.faults new.faults → new.finished ≡ false → IsRunOf (Some asked) before after old new statuses.WriteFault
    cut_short front rose unfinished = record {
      cause = (refl, rose);
      earlier = tt;
      text = λ e. absurd (cc);
      finished = λ e. absurd (cc);
      steady = λ e. absurd (cc);
      front = λ e. record { text = text; answers = answers; front = front };
      unfinished = λ e. unfinished;
      untouched = tt;
      later = later;
      still = stands asked before.held old.free old.faults new.faults text answers calm;
      held = left.held;
      sure = left.sure;
      counts = left.counts;
      complete = complete no_fault apart (Some asked) before.held before.faults after.faults old.faults new.faults statuses.WriteFault (refl, rose);
    }

  -- after the outcome of the operation on the values of the files, of which a text was written

  written :
      (asked : Asked) (before after : FilesSeen) (old new : SinkSeen) (result : Result SinkThatGrows Status) (s : Status) → LeavesFiles before after → IfOk result (λ text. IsAnswer asked before.held text.bytes) →
      IfErr result (EndsRun (Some asked) before after) → WritesOutcome result old new s → IsRunOf (Some asked) before after old new s
  written asked before after old new (Ok text) s left answers ends w = elim w.done [
    | inl h ↦
        subst (λ (t : Status). IsRunOf (Some asked) before after old new t) (sym h.is_done)
        (answered asked before after old new text.bytes answers w.later w.still left h.taken h.finished h.steady)
    | inr h ↦
        subst (λ (t : Status). IsRunOf (Some asked) before after old new t) (sym h.is_fault)
        (cut_short asked before after old new text.bytes answers w.later w.still left h.front h.rose h.unfinished)
  ]
  written asked before after old new (Err own) s left answers ends w =
      subst (λ (t : Status). IsRunOf (Some asked) before after old new t) w.0
      (subst (λ (out : SinkSeen). IsRunOf (Some asked) before after old out own) w.1 (ended (Some asked) before after old own ends left))

  pub performed :
      {S : Type 0} (asked : Asked) (scale : Scale) (levelled : Bool) (product : ℕ → ℕ → ℕ) → scale ≡ scale_of asked.mode → levelled ≡ levelled_of asked.mode → product ≡ product_of asked.mode →
      (before after : FilesSeen) (old new : SinkSeen) (labels : List (List ℕ)) (read : Values S) → AreValuesOf scale labels (bytes_of asked before.held) asked.task.operation read → LeavesFiles before after →
      (result : Result SinkThatGrows Status) → IsOutcome asked.task.operation (setting_of scale levelled product asked labels) read result → (s : Status) → WritesOutcome result old new s →
      IsRunOf (Some asked) before after old new s
  performed asked scale levelled product we le pe before after old new labels read are left result outcome s w =
      written asked before after old new result s left (outcome_answers asked scale levelled product we le pe before.held labels read are result outcome)
      (outcome_ends asked scale levelled product we le pe before after labels read are result outcome) w

-- the line on the log
pub logged :
    {T E : Type 0} (old new : SinkSeen) (line : List ℕ) (result : Result T E) → Wrote old new line result → IsLogged line old new
logged old new line (Ok done) w = record {
  front = front_whole old new line w.ok;
  whole = λ below still. w.ok;
  later = w.later;
  still = is_calm old new line (Ok done) w;
  unfinished = w.unfinished;
  written = w.written;
  broken = λ changed. absurd (changed w.steady);
}
logged old new line (Err e) w = record {
  front = w.err;
  whole = λ below still. let rose : Rose old.faults new.faults = w.cause in absurd (omega arith);
  later = w.later;
  still = is_calm old new line (Err e) w;
  unfinished = w.unfinished;
  written = w.written;
  broken = λ changed. w.broken;
}
