-- The left states of the rules of a label whose states are in given sets.
use Rattle.std.specs.Prelude.{ℕ, ◌<◌, ◌&&◌, nat_eq, Bool, true, false, if◌then◌else◌, List, [], ◌∷◌, ◌++◌, length}
use Rattle.tib_lex.specs.Lists.{Has, Each, Ascends}
use Rattle.tib_grammar.specs.Sides.{holes}
use Rattle.tib_grammar.specs.Run.{rule_at}
use Rattle.tib_grammar.specs.declared.Rule.{Rule}
use Rattle.tib_difference.specs.Subsets.{SubsetOf}
use Rattle.tib_difference.specs.Difference.{KeyOf}
use Rattle.tib_key_edges.specs.Places.{positions_with}
use Rattle.tib_difference.specs.Shapes.{has_shape}

-- the set of each key ascends
abbrev pub AreAscending : List KeyOf → Type 0
AreAscending keys = Each (λ k. Ascends ◌<◌ k.1) keys

-- whether a state is in a set
abbrev pub holds : SubsetOf → ℕ → Bool
holds [] q = false
holds (p ∷ v) q = if nat_eq p q then true else holds v q

-- whether each state is in the set at its place, and there are as many of both
abbrev pub are_in : List ℕ → List SubsetOf → Bool
are_in [] [] = true
are_in [] (v ∷ vs) = false
are_in (q ∷ qs) [] = false
are_in (q ∷ qs) (v ∷ vs) = holds v q && are_in qs vs

-- before others the left state of a rule, if its states are in the sets
abbrev pub with_left : List (Rule ℕ) → List SubsetOf → ℕ → List ℕ → List ℕ
with_left rules vs m more = if are_in (holes (rule_at rules m).right.kids) vs then (rule_at rules m).left ∷ more else more

-- the left states of those of some rules whose states are in the sets
abbrev pub lefts_at : List (Rule ℕ) → List SubsetOf → List ℕ → List ℕ
lefts_at rules vs [] = []
lefts_at rules vs (m ∷ ms) = with_left rules vs m (lefts_at rules vs ms)

-- the same of the rules that have a label, and one of some states at the first place
abbrev pub lefts_from : List (Rule ℕ) → ℕ → List SubsetOf → List ℕ → List ℕ
lefts_from rules f vs [] = []
lefts_from rules f vs (q ∷ qs) = lefts_at rules vs (positions_with has_shape (q, f, length vs) rules) ++ lefts_from rules f vs qs

-- the states that may be at the first place; the number 0 stands for none
abbrev pub first_of : List SubsetOf → List ℕ
first_of [] = 0 ∷ []
first_of (v ∷ vs) = v

-- the left states of all rules of a label whose states are in the sets
abbrev pub lefts_over : List (Rule ℕ) → ℕ → List SubsetOf → List ℕ
lefts_over rules f vs = lefts_from rules f vs (first_of vs)

-- the same states, ascending, each once
pub record IsSorting (old new : List ℕ) : Type 0 where
  pub ascends : Ascends ◌<◌ new
  pub to : (q : ℕ) → Has old q → Has new q
  pub from : (q : ℕ) → Has new q → Has old q
