-- More pairs than the limit, whichever trimmed normal forms are taken.
use Rattle.std.specs.Prelude.{ℕ}
use Rattle.tib_grammar.specs.GrammarOf.{GrammarOf}
use Rattle.tib_expand.specs.Reached.{IsBeyond}
use Rattle.tib_canon.specs.TrimmedForms.{IsTrimmedForm}
use Rattle.tib_intersect.specs.Intersection.{intersection, OrderIsFree}
use Rattle.tib_operations.specs.Intersect.{AreTrimmedForms, intersecting}
use Rattle.tib_lex.specs.Lists.{IsReordering}

pub more_pairs :
    (product : ℕ → ℕ → ℕ) (limit : ℕ) (f g one two : GrammarOf) → OrderIsFree product →
    ((h m n : GrammarOf) → IsTrimmedForm product h m → IsTrimmedForm product h n → IsReordering m.rules n.rules) →
    IsTrimmedForm product f one → IsTrimmedForm product g two → IsBeyond (intersection product one.rules two.rules) limit →
    (from : GrammarOf × GrammarOf) → AreTrimmedForms product f g from → IsBeyond (intersecting product from).problem limit
more_pairs product limit f g one two free same first second beyond from are order edges reached =
    beyond order edges
    (free from.0.rules from.1.rules one.rules two.rules (same f from.0 one are.0 first) (same g from.1 two are.1 second) order edges reached)
