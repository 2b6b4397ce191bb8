-- The states of a grammar in normal form from which a tree has runs, found from those of the trees
-- below its root (the subset construction of tree automata, Comon et al. 2007).
use Rattle.std.specs.Prelude.{◌≡◌, ◌↔◌, ℕ, ◌<◌, List, [], ◌∷◌, length}
use Rattle.tib_lex.specs.Lists.{Has, Ascends}
use Rattle.tib_grammar.specs.Sides.{label, holes}
use Rattle.tib_grammar.specs.Run.{rule_at}
use Rattle.tib_grammar.specs.declared.Rule.{Rule}

-- a set of states
abbrev pub SubsetOf : Type 0
SubsetOf = List ℕ

-- each state is in the set at its place, and there are as many of both
abbrev pub AreIn : List ℕ → List SubsetOf → Type 0
AreIn [] [] = Unit {0}
AreIn [] (v ∷ vs) = ⊥
AreIn (q ∷ qs) [] = ⊥
AreIn (q ∷ qs) (v ∷ vs) = Has v q × AreIn qs vs

-- some rule leads from the state q to the label f over states of the sets
pub record LeadsTo (rules : List (Rule ℕ)) (f : ℕ) (vs : List SubsetOf) (q : ℕ) : Type 0 where
  pub rule : ℕ
  pub below : rule < length rules
  pub left : (rule_at rules rule).left ≡ q
  pub root : (rule_at rules rule).right.label ≡ label f
  pub states : AreIn (holes (rule_at rules rule).right.kids) vs

-- The set has the states that lead to f over the sets, each once, ascending. It is empty where no
-- state does, as where one of the sets is empty.
pub record IsSubset (rules : List (Rule ℕ)) (f : ℕ) (vs : List SubsetOf) (v : SubsetOf) : Type 0 where
  pub ascends : Ascends ◌<◌ v
  pub states : (q : ℕ) → Has v q ↔ LeadsTo rules f vs q
