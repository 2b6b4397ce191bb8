-- What the faults of a comparison say.
use Rattle.std.specs.Prelude.{◌≡◌, ℕ, ◌≤◌, max, List, length}
use Rattle.tib_grammar.specs.GrammarOf.{GrammarOf}
use Rattle.tib_grammar.specs.declared.Rule.{Rule}
use Rattle.tib_expand.specs.Reached.{Exploration, IsReachedSet, IsBeyond, parts_of}
use Rattle.tib_expand.specs.declared.error.HuntError.TheVariants.{TooMany as HuntedTooMany, OutOfMemory as HuntedOutOfMemory}
use Rattle.tib_expand.specs.declared.error.HuntError.{HuntError}
use Rattle.tib_determinize.specs.Vectors.{VectorOf}
use Rattle.tib_determinize.specs.Determinization.{determinization}
use Rattle.tib_compare.specs.Beside.{beside}
use Rattle.tib_compare.specs.Compared.{IsTooLarge}
use Rattle.tib_compare.specs.declared.error.CompareError.{CompareError}
use Rattle.tib_compare.specs.declared.error.CompareError.TheVariants.{TooMany, TreeTooLarge, OutOfMemory}

-- what is hunted: the vectors of both grammars side by side
abbrev pub hunted : GrammarOf → GrammarOf → Exploration VectorOf (ℕ × List ℕ) (Rule VectorOf)
hunted left right = determinization max (beside (length left.names) left.rules right.rules)

-- a reached set has no more parts than the limit
abbrev pub IsWithin : GrammarOf → GrammarOf → ℕ → Type 0
IsWithin left right limit =
    (order : List VectorOf) × (edges : List (Rule VectorOf)) × IsReachedSet (hunted left right) order edges × (parts_of (hunted left right) order edges ≤ limit)

-- why there is no result
abbrev pub IsCause : GrammarOf → GrammarOf → ℕ → CompareError → Type 0
IsCause left right limit (TooMany n) = (n ≡ limit) × IsBeyond (hunted left right) limit
IsCause left right limit TreeTooLarge = IsWithin left right limit × IsTooLarge left.rules right.rules
IsCause left right limit OutOfMemory = Unit {0}

-- the fault of a hunt as one of a comparison
abbrev pub IsFaultOf : HuntError → CompareError → Type 0
IsFaultOf (HuntedTooMany n) e = e ≡ TooMany n
IsFaultOf HuntedOutOfMemory e = e ≡ OutOfMemory
