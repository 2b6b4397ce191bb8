-- The series of the difference of two grammars, and that of what is reached.
use Rattle.std.specs.Prelude.{◌≡◌, ◌↔◌, ℕ, nat_eq, if◌then◌else◌, List, [], ◌∷◌, ◌++◌, length, map, Option, None}
use Rattle.std.proofs.Common.{suc}
use Rattle.tib_tree.specs.Trees.{Tree, Trees, only}
use Rattle.tib_grammar.specs.Forms.{AreNormal}
use Rattle.tib_grammar.specs.GrammarOf.{named_rule}
use Rattle.tib_grammar.specs.Range.{AreInRange}
use Rattle.tib_grammar.specs.Run.{AreRuns, yields}
use Rattle.tib_grammar.specs.Series.{IsSeries}
use Rattle.tib_grammar.specs.Sides.{Lone}
use Rattle.tib_grammar.specs.declared.Rule.{Rule}
use Rattle.tib_expand.specs.Reached.{IsReachedSet}
use Rattle.tib_difference.specs.Subsets.{SubsetOf}
use Rattle.tib_difference.specs.Difference.{KeyOf, difference, key_at}
use Rattle.tib_determinize.specs.Started.{chain_to}

-- the tree has a run from the start, whatever it costs
pub record HasRun (rules : List (Rule ℕ)) (t : Tree ℕ) : Type 0 where
  pub runs : Trees ℕ
  pub are_runs : AreRuns rules (0 ∷ []) runs
  pub yielded : yields rules runs ≡ only t

-- v is the cost that the difference gives the tree: that of the first grammar where the tree has no
-- run in the second, and else none
pub record IsDifferenceSeries (product : ℕ → ℕ → ℕ) (one two : List (Rule ℕ)) (t : Tree ℕ) (v : Option ℕ) : Type 0 where
  pub without : (HasRun two t → ⊥) → IsSeries product one t v
  pub with_run : HasRun two t → v ≡ None

-- the rules give each tree the cost that the difference of two others gives it
abbrev pub HasDifferenceSeries : (ℕ → ℕ → ℕ) → List (Rule ℕ) → List (Rule ℕ) → List (Rule ℕ) → Type 0
HasDifferenceSeries product one two rules = (t : Tree ℕ) (v : Option ℕ) → IsSeries product rules t v ↔ IsDifferenceSeries product one two t v

-- with a further position, at `one`, unless the set has the start of the second grammar
abbrev pub unless_start : SubsetOf → ℕ → List (ℕ × ℕ) → List (ℕ × ℕ)
unless_start [] i more = (i, 0) ∷ more
unless_start (q ∷ v) i more = if nat_eq q 0 then more else unless_start v i more

-- with a further position where its key has the start of the first grammar, and not that of the
-- second
abbrev pub with_final : ℕ → KeyOf → List (ℕ × ℕ) → List (ℕ × ℕ)
with_final i k more = if nat_eq k.0 0 then unless_start k.1 i more else more

-- where the fresh start leads: each position, from i on, whose key has the start of the first
-- grammar, and not that of the second, at `one`
abbrev pub finals : ℕ → List KeyOf → List (ℕ × ℕ)
finals i [] = []
finals i (k ∷ order) = with_final i k (finals (suc i) order)

-- the fresh start is 0, and each position is one more
abbrev pub started : List KeyOf → List (Rule ℕ) → List (Rule ℕ)
started order new = map chain_to (finals 0 order) ++ map (named_rule suc) new

-- the reached set, as rules over the positions of its order
pub record IsReachedGrammar (one two : List (Rule ℕ)) (order : List KeyOf) (new : List (Rule ℕ)) : Type 0 where
  pub reached : IsReachedSet (difference one two) order (map (named_rule (key_at order)) new)
  pub in_range : AreInRange (length order) new

-- with its fresh start the reached set has the series of the difference
abbrev pub ReachedHasSeries : (ℕ → ℕ → ℕ) → Type 0
ReachedHasSeries product =
    (one two : List (Rule ℕ)) → AreNormal one → AreNormal two → (order : List KeyOf) (new : List (Rule ℕ)) →
    IsReachedGrammar one two order new → HasDifferenceSeries product one two (started order new)
