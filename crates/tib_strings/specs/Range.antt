-- The shape and the classes of the rules of tree-to-string transducers.
use Rattle.std.specs.Prelude.{ℕ, ◌<◌, List, length}
use Rattle.tib_lex.specs.Lists.{Has, Each, Distinct}
use Rattle.tib_grammar.specs.Range.{AllBelow}
use Rattle.tib_transducer.specs.Rules.{variables_of}
use Rattle.tib_transducer.specs.Range.{BeginsWithLabel, AreNumbered}
use Rattle.tib_strings.specs.Rules.{string_rule, states_in, variables_in}
use Rattle.tib_strings.specs.declared.StringRule.{StringRule}

-- The left side begins with a label, and numbers its variables from 0 in preorder; the right side
-- has no variable that the left side lacks.
pub record IsShaped {P : Type 0} (r : StringRule P) : Type 0 where
  pub begins : BeginsWithLabel r.left
  pub numbered : AreNumbered 0 (variables_of r.left)
  pub known : Each (λ i. i < length (variables_of r.left)) (variables_in r.right)

abbrev pub AreShaped : List (StringRule ℕ) → Type 0
AreShaped rules = (m : ℕ) → m < length rules → IsShaped (string_rule rules m)

-- the states of a rule are below n
abbrev pub IsWithin : ℕ → StringRule ℕ → Type 0
IsWithin n r = (r.state < n) × AllBelow n (states_in r.right)

-- the states of all rules are
abbrev pub AreWithin : ℕ → List (StringRule ℕ) → Type 0
AreWithin n rules = (m : ℕ) → m < length rules → IsWithin n (string_rule rules m)

-- no variable occurs twice on the right
abbrev pub IsLinear : {P : Type 0} → StringRule P → Type 0
IsLinear r = Distinct (variables_in r.right)

-- each variable of the left side occurs on the right
abbrev pub IsNondeleting : {P : Type 0} → StringRule P → Type 0
IsNondeleting r = Each (λ x. Has (variables_in r.right) x.number) (variables_of r.left)

-- all rules are linear, and all are nondeleting
abbrev pub AreLinear : List (StringRule ℕ) → Type 0
AreLinear rules = (n : ℕ) → n < length rules → IsLinear (string_rule rules n)

abbrev pub AreNondeleting : List (StringRule ℕ) → Type 0
AreNondeleting rules = (n : ℕ) → n < length rules → IsNondeleting (string_rule rules n)
