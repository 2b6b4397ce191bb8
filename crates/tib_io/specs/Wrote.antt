-- What a call that writes a text leaves of its sink.
use Rattle.std.specs.Prelude.{◌≡◌, ℕ, ◌<◌, ◌≤◌, false, List, length, Result, OnOk, OnErr}
use Rattle.tib_io.specs.Causes.{Rose}
use Rattle.tib_io.specs.Writes.{SinkSeen, Takes, TakesFront, Succeeds}

pub record Wrote {T E : Type 0} (old new : SinkSeen) (text : List ℕ) (result : Result T E) : Type 0
  where
    -- the whole text was appended, or a front of it if the call failed
    pub ok : OnOk result (Takes old new text)
    pub err : OnErr result (TakesFront old new text)
    -- the count of faults rose if the call failed, is as before if it succeeded, and never falls
    pub cause : OnErr result (Rose old.faults new.faults)
    pub steady : OnOk result (new.faults ≡ old.faults)
    pub later : old.faults ≤ new.faults
    -- it succeeds where there is known to be room for the text
    pub succeeds : Succeeds old.free (length text) old.faults result
    -- it finishes nothing: the sink is unfinished if it was, once a byte was written, and after a
    -- fault
    pub unfinished : old.finished ≡ false → new.finished ≡ false
    pub written : 0 < length text → new.finished ≡ false
    pub broken : OnErr result (new.finished ≡ false)
