-- Errors that name a limit.
use Rattle.std.specs.Prelude.{◌≡◌, ℕ}
use Rattle.tib_expand.specs.declared.error.HuntError.{HuntError}
use Rattle.tib_expand.specs.declared.error.HuntError.TheVariants.{TooMany, OutOfMemory}

-- if the error is not `OutOfMemory`, it names the limit, and P holds
abbrev pub IfTooMany : ℕ → Type 0 → HuntError → Type 0
IfTooMany limit P (TooMany n) = (n ≡ limit) × P
IfTooMany limit P OutOfMemory = Unit {0}
