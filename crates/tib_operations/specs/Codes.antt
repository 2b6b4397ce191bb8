-- The exit statuses.
use Rattle.std.specs.Prelude.{ℕ}
use Rattle.tib_operations.specs.declared.status.Status.{Status}
use Rattle.tib_operations.specs.declared.status.Status.TheVariants as statuses

-- the status with which the program ends
abbrev pub code_of : Status → ℕ
code_of statuses.Done = 0
code_of statuses.Usage = 2
code_of (statuses.BadInput file fault) = 3
code_of (statuses.Class file rule fault) = 4
code_of (statuses.TooMany limit) = 5
code_of statuses.TreeTooLarge = 6
code_of (statuses.ReadFault file) = 7
code_of statuses.WriteFault = 8
code_of (statuses.TooLong file) = 9
code_of statuses.OutOfMemory = 10
