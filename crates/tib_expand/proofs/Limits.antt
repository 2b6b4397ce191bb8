-- Errors that name a limit.
use Rattle.std.proofs.Common.{ℕ}
use Rattle.tib_expand.specs.Limits.{IfTooMany}
use Rattle.tib_expand.specs.declared.error.HuntError.{HuntError}
use Rattle.tib_expand.specs.declared.error.HuntError.TheVariants.{TooMany, OutOfMemory}

-- an error that says P says Q, where Q follows from P
pub IfTooMany-weaker : (limit : ℕ) (P Q : Type 0) (e : HuntError) → (P → Q) → IfTooMany limit P e → IfTooMany limit Q e
IfTooMany-weaker limit P Q (TooMany n) f h = (h.0, f h.1)
IfTooMany-weaker limit P Q OutOfMemory f h = tt
