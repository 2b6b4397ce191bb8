-- What the runs of a reached set mean.
use Rattle.std.specs.Prelude.{◌≡◌, ℕ, List, [], ◌∷◌, Bool}
use Rattle.tib_tree.specs.Trees.{Trees, none, tree}
use Rattle.tib_grammar.specs.Sides.{holes_of}
use Rattle.tib_grammar.specs.Run.{rule_at, AreRuns}
use Rattle.tib_grammar.specs.Forms.{AreNormal}
use Rattle.tib_grammar.specs.declared.Rule.{Rule}
use Rattle.tib_grammar.proofs.OneRun.{UsesNormal, one_run}
use Rattle.tib_cost.specs.Semiring.{ProductLaws}
use Rattle.tib_determinize.specs.Vectors.{VectorOf}
use Rattle.tib_determinize.specs.VectorGrammar.{IsVectorGrammar, IsDeterminized, ReadsSeries}
use Rattle.tib_determinize.proofs.Determining.{read, without}
use Rattle.tib_determinize.proofs.Found.{vector_grammar}

all_normal : (rules : List (Rule ℕ)) → AreNormal rules → (runs : Trees ℕ) (qs : List ℕ) → AreRuns rules qs runs → UsesNormal rules runs
all_normal rules normal none qs a = tt
all_normal rules normal (tree n runs rest) [] a = absurd a
all_normal rules normal (tree n runs rest) (q ∷ qs) a = (normal n a.0, all_normal rules normal runs (holes_of (rule_at rules n).right) a.2, all_normal rules normal rest qs a.3)

head_same : (j k : ℕ) → ◌≡◌ {A = List ℕ} (j ∷ []) (k ∷ []) → j ≡ k
head_same j k e = cc

-- the runs of a reached set mean the series
pub reads_series :
    {levelled weighted : Bool} (product : ℕ → ℕ → ℕ) → ProductLaws levelled weighted product → (rules : List (Rule ℕ)) → AreNormal rules → (order : List VectorOf) (new : List (Rule ℕ)) →
    IsDeterminized product rules order new → ReadsSeries product rules order new
reads_series product laws rules normal order new found =
    let vectors : IsVectorGrammar product rules order new = vector_grammar product rules order laws new found in
    record {
      one_run = λ j k one two a b e.
          let same = one_run new vectors.leaves vectors.apart one two (j ∷ []) (k ∷ []) (all_normal new vectors.normal one (j ∷ []) a) (all_normal new vectors.normal two (k ∷ []) b) a b e in
          (same.0, head_same j k same.1);
      read = read laws rules normal order new vectors;
      without = without laws rules normal order new vectors;
    }
