-- The canonical form of a grammar.
use Rattle.tib_cost.specs.declared.Scale.{Scale}
use Rattle.std.specs.Prelude.{◌≡◌, ℕ, ◌-◌, ◌≤◌, List, [], ◌∷◌, ◌++◌, length, take, decimal, zero, suc}
use Rattle.std.specs.declared.cmp.Ordering.{Ordering}
use Rattle.std.specs.declared.cmp.Ordering.TheVariants.{Less}
use Rattle.std.specs.Ordering.{nat_cmp, ordering_then}
use Rattle.std.specs.Cmp.Lexicographic.{slice_cmp}
use Rattle.tib_lex.specs.Lists.{Has, Ascends}
use Rattle.tib_grammar.specs.GrammarOf.{GrammarOf}
use Rattle.tib_grammar.specs.declared.Rule.{Rule}
use Rattle.tib_grammar_file.specs.Printed.{rule_text}
use Rattle.tib_inside.specs.Trimmed.{IsTrimmed}

-- a `q` and the number of a state
abbrev pub name_of : ℕ → List ℕ
name_of n = 113 ∷ decimal n

-- q0, q1, q2 and so on, this many
abbrev pub names_of : ℕ → List (List ℕ)
names_of zero = []
names_of (suc n) = names_of n ++ name_of n ∷ []

-- this holds for the grammar of some rules over this many states, whatever the names of the states
abbrev pub OverStates : ℕ → List (Rule ℕ) → (GrammarOf → Type 0) → Type 0
OverStates states rules P = (names : List (List ℕ)) → length names ≡ states → P (record { names = names; rules = rules })

-- the line of a rule as it is printed, without the line feed
abbrev pub line_of : Scale → List (List ℕ) → List (List ℕ) → Rule ℕ → List ℕ
line_of scale names labels r = take (length (rule_text scale names labels r) - 1) (rule_text scale names labels r)

-- rules are in the order of their left states, and those of one state in the order of their lines
abbrev pub rule_cmp : Scale → List (List ℕ) → List (List ℕ) → Rule ℕ → Rule ℕ → Ordering
rule_cmp scale names labels r s =
    ordering_then (nat_cmp r.left s.left) (slice_cmp nat_cmp (line_of scale names labels r) (line_of scale names labels s))

-- the rules have the same left state and the same right-hand side
pub record AgreeInSides (r s : Rule ℕ) : Type 0 where
  pub left : r.left ≡ s.left
  pub right : r.right ≡ s.right

-- one of the rules has the sides of r
pub record HasSides (rules : List (Rule ℕ)) (r : Rule ℕ) : Type 0 where
  pub rule : Rule ℕ
  pub stands : Has rules rule
  pub agrees : AgreeInSides rule r

-- A grammar itself, with canonical names and in canonical order, over a table of labels. Its states
-- are named q0, q1 and so on by their numbers. Its rules are rules of the grammar, each at the
-- least cost of those with its sides, and all sides are there. They ascend by their left states and
-- then by their lines.
pub record IsInOrder (scale : Scale) (labels : List (List ℕ)) (g h : GrammarOf) : Type 0 where
  pub names : h.names ≡ names_of (length g.names)
  pub kept : (r : Rule ℕ) → Has h.rules r → Has g.rules r
  pub least : (r s : Rule ℕ) → Has h.rules r → Has g.rules s → AgreeInSides r s → r.cost ≤ s.cost
  pub whole : (r : Rule ℕ) → Has g.rules r → HasSides h.rules r
  pub ascends : Ascends (λ r s. rule_cmp scale h.names labels r s ≡ Less) h.rules

-- The canonical form of a grammar: without the states and rules that no run within the greatest
-- cost uses, and then with canonical names and in canonical order.
pub record IsCanonical (product : ℕ → ℕ → ℕ) (scale : Scale) (labels : List (List ℕ)) (g h : GrammarOf) : Type 0 where
  pub trimmed : GrammarOf
  pub is_trimmed : IsTrimmed product g trimmed
  pub in_order : IsInOrder scale labels trimmed h
