-- A fault of a line, as one of its file.
use Rattle.std.specs.Prelude.{ℕ}
use Rattle.tib_lex.specs.declared.fault.LineError.{LineError}
use Rattle.tib_lex.specs.declared.fault.LineError.TheVariants as line_errors
use Rattle.tib_lex.specs.declared.fault.ReadError.{ReadError}
use Rattle.tib_lex.specs.declared.fault.ReadError.TheVariants as errors

abbrev pub file_error_of : ℕ → LineError → ReadError
file_error_of n (line_errors.Fault kind) = errors.Fault (record { line = n; kind = kind })
file_error_of n line_errors.OutOfMemory = errors.OutOfMemory
