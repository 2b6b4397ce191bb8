-- The grammar over the positions of an order of vectors, and what its runs mean.
use Rattle.std.specs.Prelude.{◌≡◌, ℕ, ◌<◌, ◌≤◌, ◌⊎◌, List, [], ◌∷◌, length, map, None}
use Rattle.tib_lex.specs.Lists.{Has}
use Rattle.tib_tree.specs.Trees.{Tree, Trees, only}
use Rattle.tib_grammar.specs.Sides.{label, holes}
use Rattle.tib_grammar.specs.Run.{rule_at, AreRuns, yields, IsCost}
use Rattle.tib_grammar.specs.Series.{IsSeriesAt}
use Rattle.tib_grammar.specs.Forms.{AreNormal}
use Rattle.tib_grammar.specs.Range.{AreInRange, AllBelow, SidesEndInHoles}
use Rattle.tib_grammar.specs.GrammarOf.{named_rule}
use Rattle.tib_grammar.specs.declared.Rule.{Rule}
use Rattle.tib_cost.specs.Semiring.{most, cut}
use Rattle.tib_expand.specs.Reached.{IsReachedSet}
use Rattle.tib_determinize.specs.Vectors.{VectorOf, IsStepCost, IsStep, vector_at, vectors_at}
use Rattle.tib_determinize.specs.Determinization.{determinization}

-- Rules over positions of an order of vectors, each one label over positions. Each is the step of
-- its label, no two have the same right-hand side, and each label over positions has its rule, or
-- no state has a cost there.
pub record IsVectorGrammar (product : ℕ → ℕ → ℕ) (rules : List (Rule ℕ)) (order : List VectorOf) (new : List (Rule ℕ)) : Type 0 where
  pub normal : AreNormal new
  pub leaves : SidesEndInHoles new
  pub in_range : AreInRange (length order) new
  pub sound :
      (j f : ℕ) → j < length new → (rule_at new j).right.label ≡ label f →
      IsStep product rules f (vectors_at order (holes (rule_at new j).right.kids)) (rule_at new j).cost (vector_at order (rule_at new j).left)
  pub apart : (i j : ℕ) → i < length new → j < length new → (rule_at new i).right ≡ (rule_at new j).right → i ≡ j
  pub complete :
      (f : ℕ) (ps : List ℕ) → AllBelow (length order) ps →
      ((j : ℕ) × (j < length new) × ((rule_at new j).right.label ≡ label f) × (holes (rule_at new j).right.kids ≡ ps))
      ⊎ ((q u : ℕ) → IsStepCost product rules f (vectors_at order ps) q u → u ≤ most → ⊥)

-- the reached set, as rules over the positions of its order
pub record IsDeterminized (product : ℕ → ℕ → ℕ) (rules : List (Rule ℕ)) (order : List VectorOf) (new : List (Rule ℕ)) : Type 0 where
  pub reached : IsReachedSet (determinization product rules) order (map (named_rule (vector_at order)) new)
  pub in_range : AreInRange (length order) new

-- the rules of a reached set are such a grammar
abbrev pub ReachedIsVectorGrammar : (ℕ → ℕ → ℕ) → Type 0
ReachedIsVectorGrammar product =
    (rules : List (Rule ℕ)) (order : List VectorOf) (new : List (Rule ℕ)) → IsDeterminized product rules order new → IsVectorGrammar product rules order new

-- A run to the vector v that yields t at the cost d: the series at a state of the vector is d times
-- the state's residual, and none above the greatest cost; at any other state it is none.
pub record IsRead (product : ℕ → ℕ → ℕ) (rules : List (Rule ℕ)) (v : VectorOf) (t : Tree ℕ) (d : ℕ) : Type 0 where
  pub at : (q r : ℕ) → Has v (q, r) → IsSeriesAt product rules q t (cut (product d r))
  pub elsewhere : (q : ℕ) → ((r : ℕ) → Has v (q, r) → ⊥) → IsSeriesAt product rules q t None

-- What the runs to vectors mean. A tree has at most one run to a vector, whatever the vector, and
-- this is read as above; a tree without such a run has no cost at any state.
pub record ReadsSeries (product : ℕ → ℕ → ℕ) (rules : List (Rule ℕ)) (order : List VectorOf) (new : List (Rule ℕ)) : Type 0 where
  pub one_run :
      (j k : ℕ) (one two : Trees ℕ) → AreRuns new (j ∷ []) one → AreRuns new (k ∷ []) two → yields new one ≡ yields new two → (one ≡ two) × (j ≡ k)
  pub read : (k : ℕ) (t : Tree ℕ) (d : ℕ) → IsCost product new (k ∷ []) (only t) d → IsRead product rules (vector_at order k) t d
  pub without : (t : Tree ℕ) → ((k d : ℕ) → IsCost product new (k ∷ []) (only t) d → ⊥) → (q : ℕ) → IsSeriesAt product rules q t None

-- the runs of a reached set mean this, where the rules are in normal form
abbrev pub IsDetermined : (ℕ → ℕ → ℕ) → Type 0
IsDetermined product =
    (rules : List (Rule ℕ)) → AreNormal rules → (order : List VectorOf) (new : List (Rule ℕ)) → IsDeterminized product rules order new → ReadsSeries product rules order new
