-- The series of the transducer of derivations.
use Rattle.std.specs.Prelude.{◌≡◌, ◌↔◌, ℕ, List, [], ◌∷◌, Option}
use Rattle.std.proofs.Common.{suc}
use Rattle.tib_cost.specs.Least.{IsLeast}
use Rattle.tib_tree.specs.Trees.{Tree, Trees, only, relabel}
use Rattle.tib_tree.specs.Growth.{texts}
use Rattle.tib_grammar.specs.Run.{AreRuns, yields, cost}
use Rattle.tib_grammar.specs.Series.{IsSeriesAt}
use Rattle.tib_grammar.specs.declared.Rule.{Rule}
use Rattle.tib_transducer.specs.Series.{IsTransducerCost, IsTransducerSeriesAt}
use Rattle.tib_transducer.specs.declared.TransducerRule.{TransducerRule}
use Rattle.tib_rulewise.specs.Derivations.{rule_text}

-- runs as trees of texts: the position of a rule, counted from 0, becomes the text of its number
abbrev pub spelled : Trees ℕ → Trees (List ℕ)
spelled runs = relabel (λ n. rule_text (suc n)) runs

-- The tree d is a derivation of the tree t from the state q, and c is its cost: by the texts of its
-- labels d is a run from q, which yields t at this cost.
pub record IsDerivationCost (product : ℕ → ℕ → ℕ) (labels : List (List ℕ)) (rules : List (Rule ℕ))
    (q : ℕ) (d t : Tree ℕ) (c : ℕ) : Type 0 where
  pub run : Trees ℕ
  pub is_run : AreRuns rules (q ∷ []) run
  pub spells : texts labels (only d) ≡ spelled run
  pub yielded : yields rules run ≡ only t
  pub costs : cost product rules run ≡ c

-- The transducer gives a derivation and the tree that it yields the cost of the derivation, and
-- every other two trees none; so it does from each state.
abbrev pub GivesDerivations : (ℕ → ℕ → ℕ) → List (List ℕ) → List (Rule ℕ) →
    List (TransducerRule ℕ) → Type 0
GivesDerivations product labels rules derived =
    (q : ℕ) (d t : Tree ℕ) (v : Option ℕ) →
    IsTransducerSeriesAt product derived q d t v
    ↔ IsLeast (IsDerivationCost product labels rules q d t) v

-- a derivation has one cost
abbrev pub HaveOneCost : (ℕ → ℕ → ℕ) → List (List ℕ) → List (Rule ℕ) → Type 0
HaveOneCost product labels rules =
    (q : ℕ) (d t : Tree ℕ) (b c : ℕ) → IsDerivationCost product labels rules q d t b →
    IsDerivationCost product labels rules q d t c → b ≡ c

-- the series of the grammar at a tree is the least that the transducer gives it with any tree
abbrev pub KeepsSeries : (ℕ → ℕ → ℕ) → List (Rule ℕ) → List (TransducerRule ℕ) → Type 0
KeepsSeries product rules derived =
    (q : ℕ) (t : Tree ℕ) (v : Option ℕ) →
    IsSeriesAt product rules q t v
    ↔ IsLeast (λ c. (d : Tree ℕ) × IsTransducerCost product derived (q ∷ []) (only d) (only t) c) v
