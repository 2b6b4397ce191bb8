-- The grammar of a determinization with its fresh start.
use Rattle.std.specs.Prelude.{ℕ, ◌+◌, ◌↔◌, List, [], ◌∷◌, ◌++◌, map, length, Option, None, Some, nat_eq, if◌then◌else◌}
use Rattle.std.proofs.Common.{suc}
use Rattle.tib_tree.specs.Trees.{Tree}
use Rattle.tib_grammar.specs.Sides.{Lone}
use Rattle.tib_grammar.specs.Series.{IsSeries}
use Rattle.tib_grammar.specs.Forms.{AreNormal, IsDeterministic}
use Rattle.tib_grammar.specs.Range.{AreInRange, SidesEndInHoles}
use Rattle.tib_grammar.specs.GrammarOf.{named_rule}
use Rattle.tib_grammar.specs.declared.Rule.{Rule}
use Rattle.tib_determinize.specs.Vectors.{VectorOf}
use Rattle.tib_determinize.specs.VectorGrammar.{IsDeterminized}

-- the residual of the start in a vector
abbrev pub start_in : VectorOf → Option ℕ
start_in [] = None
start_in (x ∷ v) = if nat_eq x.0 0 then Some x.1 else start_in v

abbrev pub with_final : ℕ → Option ℕ → List (ℕ × ℕ) → List (ℕ × ℕ)
with_final i None more = more
with_final i (Some r) more = (i, r) ∷ more

-- each position, from i on, whose vector has the start, with the start's residual
abbrev pub finals : ℕ → List VectorOf → List (ℕ × ℕ)
finals i [] = []
finals i (v ∷ order) = with_final i (start_in v) (finals (suc i) order)

-- the chain rule of the fresh start to a position, at the residual there
abbrev pub chain_to : ℕ × ℕ → Rule ℕ
chain_to p = record { left = 0; right = Lone (suc p.0); cost = p.1 }

-- the fresh start is 0, and each position is one more
abbrev pub started : List VectorOf → List (Rule ℕ) → List (Rule ℕ)
started order new = map chain_to (finals 0 order) ++ map (named_rule suc) new

-- this grammar has the series of the grammar
abbrev pub IsSameSeries : (ℕ → ℕ → ℕ) → Type 0
IsSameSeries product =
    (rules : List (Rule ℕ)) → AreNormal rules → (order : List VectorOf) (new : List (Rule ℕ)) → IsDeterminized product rules order new →
    (t : Tree ℕ) (v : Option ℕ) → IsSeries product rules t v ↔ IsSeries product (started order new) t v

-- it is in deterministic form, over as many states as positions and the fresh start, and each hole
-- is a leaf
pub record IsWellStarted (order : List VectorOf) (new : List (Rule ℕ)) : Type 0 where
  pub deterministic : IsDeterministic (started order new)
  pub in_range : AreInRange (1 + length order) (started order new)
  pub leaves : SidesEndInHoles (started order new)

abbrev pub StartedIsDeterministic : (ℕ → ℕ → ℕ) → Type 0
StartedIsDeterministic product =
    (rules : List (Rule ℕ)) (order : List VectorOf) (new : List (Rule ℕ)) → IsDeterminized product rules order new → IsWellStarted order new
