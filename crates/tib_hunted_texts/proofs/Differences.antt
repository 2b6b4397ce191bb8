-- More keys of a difference than the limit, whichever trimmed normal forms are taken.
use Rattle.std.specs.Prelude.{ℕ, max}
use Rattle.tib_grammar.specs.GrammarOf.{GrammarOf}
use Rattle.tib_expand.specs.Reached.{IsBeyond}
use Rattle.tib_canon.specs.TrimmedForms.{IsTrimmedForm}
use Rattle.tib_difference.specs.Difference.{difference, OrderIsFree}
use Rattle.tib_operations.specs.Difference.{AreTrimmedWithSupport, differing}
use Rattle.tib_lex.specs.Lists.{IsReordering}

pub more_differences :
    (product : ℕ → ℕ → ℕ) (limit : ℕ) (f g one two : GrammarOf) → OrderIsFree →
    ((times : ℕ → ℕ → ℕ) (h m n : GrammarOf) → IsTrimmedForm times h m → IsTrimmedForm times h n → IsReordering m.rules n.rules) →
    IsTrimmedForm product f one → IsTrimmedForm max g two → IsBeyond (difference one.rules two.rules) limit →
    (from : GrammarOf × GrammarOf) → AreTrimmedWithSupport product f g from → IsBeyond (differing from).problem limit
more_differences product limit f g one two free same first second beyond from are order edges reached =
    beyond order edges
    (free from.0.rules from.1.rules one.rules two.rules (same product f from.0 one are.0 first) (same max g from.1 two are.1 second) order edges reached)
