-- Rules whose states are in range, whose left sides begin with a label and number their variables,
-- whose right sides have no other variables, and whose leaves are leaves.
use Rattle.std.specs.Prelude.{◌≡◌, ℕ, ◌<◌, List, [], ◌∷◌, length}
use Rattle.std.proofs.Common.{suc}
use Rattle.tib_lex.specs.Lists.{Each}
use Rattle.tib_tree.specs.Trees.{only}
use Rattle.tib_grammar.specs.Sides.{label, HolesAreLeaves, Side as SideFor}
use Rattle.tib_grammar.specs.Range.{AllBelow}
use Rattle.tib_transducer.specs.Rules.{transducer_rule, variables_of, states_in, variables_in}
use Rattle.tib_transducer.specs.declared.Variable.{Variable}
use Rattle.tib_transducer.specs.declared.TransducerRule.{TransducerRule}

-- the side has a label at its root, so it is no lone leaf
pub record BeginsWithLabel {P : Type 0} (side : SideFor ℕ P) : Type 0 where
  pub root : ℕ
  pub is_root : side.label ≡ label root

-- the variables are numbered n, n + 1 and so on
abbrev pub AreNumbered : ℕ → List Variable → Type 0
AreNumbered n [] = Unit {0}
AreNumbered n (x ∷ xs) = (x.number ≡ n) × AreNumbered (suc n) xs

-- The left side begins with a label, and numbers its variables from 0 in preorder; the right side
-- has no variable that the left side lacks.
pub record IsShaped {P : Type 0} (r : TransducerRule P) : Type 0 where
  pub begins : BeginsWithLabel r.left
  pub numbered : AreNumbered 0 (variables_of r.left)
  pub known : Each (λ i. i < length (variables_of r.left)) (variables_in r.right)

-- each rule has its shape
abbrev pub AreShaped : List (TransducerRule ℕ) → Type 0
AreShaped rules = (m : ℕ) → m < length rules → IsShaped (transducer_rule rules m)

-- the states of a rule are below n
abbrev pub IsWithin : ℕ → TransducerRule ℕ → Type 0
IsWithin n r = (r.state < n) × AllBelow n (states_in r.right)

-- the states of all rules are
abbrev pub AreWithin : ℕ → List (TransducerRule ℕ) → Type 0
AreWithin n rules = (m : ℕ) → m < length rules → IsWithin n (transducer_rule rules m)

-- nothing is below a variable of the left side, nor below a pair of the right side
abbrev pub EndsInHoles : {P : Type 0} → TransducerRule P → Type 0
EndsInHoles r = HolesAreLeaves (only r.left) × HolesAreLeaves (only r.right)

-- this holds of each rule
abbrev pub EndInHoles : List (TransducerRule ℕ) → Type 0
EndInHoles rules = (m : ℕ) → m < length rules → EndsInHoles (transducer_rule rules m)
