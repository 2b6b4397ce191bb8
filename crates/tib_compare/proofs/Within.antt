-- That what was found is within the limit.
use Rattle.std.specs.Prelude.{◌≡◌, ℕ, ◌≤◌, max, List, length}
use Rattle.std.proofs.Common.{arith, subst}
use Rattle.tib_grammar.specs.GrammarOf.{GrammarOf}
use Rattle.tib_grammar.specs.declared.Rule.{Rule}
use Rattle.tib_expand.specs.Reached.{IsReachedSet, parts_of}
use Rattle.tib_expand.specs.declared.found.Found.{Found}
use Rattle.tib_determinize.specs.Answered.{edges_of, IsAnswer, HasParts}
use Rattle.tib_determinize.specs.Vectors.{VectorOf}
use Rattle.tib_determinize.specs.Determinization.{determinization}
use Rattle.tib_compare.specs.Beside.{beside}
use Rattle.tib_compare.specs.Faults.{IsWithin}

pub within_of :
    (left right : GrammarOf) (limit : ℕ) (rules : List (Rule ℕ)) → rules ≡ beside (length left.names) left.rules right.rules → (found : Found VectorOf (Rule ℕ)) →
    IsAnswer max rules found → HasParts max rules found → found.parts ≤ limit → IsWithin left right limit
within_of left right limit rules e found reached parts within =
    subst
    (λ (rs : List (Rule ℕ)).
    (order : List VectorOf) × (edges : List (Rule VectorOf)) × IsReachedSet (determinization max rs) order edges × (parts_of (determinization max rs) order edges ≤ limit))
    e
    (found.order.items, edges_of found, reached.reached, omega (arith, parts, within))
