-- The line that is written on the log.
use Rattle.std.specs.Prelude.{ℕ, List, [], ◌++◌, codes, decimal}
use Rattle.tib_lex.specs.declared.fault.FaultKind.{FaultKind}
use Rattle.tib_lex.specs.declared.fault.FaultKind.TheVariants as kinds
use Rattle.tib_lex.specs.declared.fault.FileFault.{FileFault}
use Rattle.tib_transducer.specs.declared.error.ClassFault.{ClassFault}
use Rattle.tib_transducer.specs.declared.error.ClassFault.TheVariants as classes
use Rattle.tib_operations.specs.declared.status.Status.{Status}
use Rattle.tib_operations.specs.declared.status.Status.TheVariants as statuses

-- the words of a fault, with the end of their line
unfoldable pub kind_words : FaultKind → List ℕ
kind_words kinds.NoStart = codes "no start\n"
kind_words kinds.BadToken = codes "bad token\n"
kind_words kinds.BadRule = codes "bad rule\n"
kind_words kinds.BadTree = codes "bad tree\n"
kind_words kinds.LoneVariable = codes "lone variable on the left\n"
kind_words kinds.VariableTwice = codes "variable twice on the left\n"
kind_words kinds.UnknownVariable = codes "unknown variable\n"
kind_words kinds.NotWhole = codes "weight is not a whole number\n"
kind_words kinds.WeightTooLarge = codes "weight too large\n"
kind_words kinds.TooManyNodes = codes "too many nodes\n"
kind_words kinds.BadString = codes "bad string\n"

abbrev pub fault_line : ℕ → FileFault → List ℕ
fault_line file fault = (codes "tiburon: file " ++ decimal file ++ codes ": line ") ++ (decimal fault.line ++ codes ": " ++ kind_words fault.kind)

-- the words of a class that a rule breaks, with the end of their line
unfoldable pub class_words : ClassFault → List ℕ
class_words classes.NotLinear = codes "not linear\n"
class_words classes.NotNondeleting = codes "not nondeleting\n"
class_words classes.Extended = codes "extended\n"
class_words classes.Labelled = codes "labelled\n"
class_words classes.NotStrict = codes "not strict\n"

abbrev pub class_line : ℕ → ℕ → ClassFault → List ℕ
class_line file rule fault = (codes "tiburon: file " ++ decimal file ++ codes ": rule ") ++ (decimal rule ++ codes ": " ++ class_words fault)

-- the line of a status that names no number
unfoldable pub plain_line_of : Status → List ℕ
plain_line_of statuses.Usage = codes "tiburon: usage: tiburon [-m MODE] [-k N] [-w N] [--limit N] [--beam N] OPERATION FILE...\n"
plain_line_of statuses.TreeTooLarge = codes "tiburon: a tree has more than 10000 nodes\n"
plain_line_of statuses.WriteFault = codes "tiburon: cannot write\n"
plain_line_of statuses.OutOfMemory = codes "tiburon: out of memory\n"
plain_line_of _ = []

-- the line of a status, and nothing for the one of a run that is done
abbrev pub line_of : Status → List ℕ
line_of (statuses.BadInput file fault) = fault_line file fault
line_of (statuses.Class file rule fault) = class_line file rule fault
line_of (statuses.TooMany limit) = codes "tiburon: more than " ++ decimal limit ++ codes " parts\n"
line_of (statuses.ReadFault file) = codes "tiburon: file " ++ decimal file ++ codes ": cannot be read\n"
line_of (statuses.TooLong file) = codes "tiburon: file " ++ decimal file ++ codes ": longer than 8388608 bytes\n"
line_of status = plain_line_of status
