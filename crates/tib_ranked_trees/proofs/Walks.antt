-- How many states a round asks.
use Rattle.std.specs.Prelude.{◌≡◌, ℕ, ◌+◌, ◌≤◌, List, [], ◌∷◌, ◌++◌, refl}
use Rattle.std.proofs.Common.{arith, ap, inl, inr}
use Rattle.tib_tree.specs.Trees.{sizes}
use Rattle.tib_grammar.specs.Run.{rule_at}
use Rattle.tib_ranked_trees.specs.Levels.{trees_of, states_of}
use Rattle.tib_ranked_trees.specs.Pass.{Entries, picked, AreRanks}
use Rattle.tib_ranked_trees.specs.Walks.{pairs, weight, AreSome, WalksAreShort}

module _ (entries : Entries) where
  -- the entries that ranks name have the nodes of the trees side by side
  weight-pairs : (qs js : List ℕ) → AreRanks entries qs js → weight entries (pairs qs js) ≡ sizes (trees_of (picked entries qs js))
  weight-pairs [] js r = refl
  weight-pairs (q ∷ qs) [] r = absurd r
  weight-pairs (q ∷ qs) (j ∷ js) r = omega (arith, weight-pairs qs js r.1)

  weight-some : (ps cs : List (ℕ × ℕ)) → AreSome ps cs → weight entries cs ≤ weight entries ps
  weight-some [] cs e = let w : weight entries cs ≡ 0 = ap (weight entries) e in omega arith
  weight-some (p ∷ ps) cs (inl s) = omega (arith, weight-some ps cs s)
  weight-some (p ∷ ps) cs (inr s) =
      let w : weight entries cs ≡ weight entries (p ∷ s.0) = ap (weight entries) s.1 in
      omega (arith, w, weight-some ps s.0 s.2)

  weight-append : (cs rest : List (ℕ × ℕ)) → weight entries (cs ++ rest) ≡ weight entries cs + weight entries rest
  weight-append [] rest = omega arith
  weight-append (c ∷ cs) rest = omega (arith, weight-append cs rest)

pub short : (product : ℕ → ℕ → ℕ) → WalksAreShort product
short product = record {
  step = λ rules entries n js top rest chosen ranks same some.
      omega (
        arith,
        weight-append entries chosen rest,
        weight-some entries (pairs (states_of (rule_at rules n)) js) chosen some,
        weight-pairs entries (states_of (rule_at rules n)) js ranks,
        same,
      );
}
