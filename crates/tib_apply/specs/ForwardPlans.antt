-- What a rule of the transducer does at each match of its left-hand side.
use Rattle.std.specs.Prelude.{◌≡◌, ℕ, ◌<◌, List, [], ◌∷◌, map, length, Option, Bool, false, nat_eq, if◌then◌else◌}
use Rattle.std.specs.List.{list_any}
use Rattle.std.proofs.Common.{get_or}
use Rattle.tib_lex.specs.Lists.{Along}
use Rattle.tib_grammar.specs.Sides.{Side as SideFor, holes_of}
use Rattle.tib_transducer.specs.Rules.{transducer_rule, variables_of, variable_at, variables_in}
use Rattle.tib_transducer.specs.declared.Variable.{Variable}
use Rattle.tib_transducer.specs.declared.Pair.{Pair}
use Rattle.tib_transducer.specs.declared.TransducerRule.{TransducerRule}
use Rattle.tib_apply.specs.Restrictions.{restriction}
use Rattle.tib_apply.specs.declared.forward_plan.PlannedEnd.{PlannedEnd}
use Rattle.tib_apply.specs.declared.forward_plan.Plan.{Plan}

-- the key of an end, where the variables on the left are at these states of the grammar
abbrev pub end_at : List ℕ → PlannedEnd → ℕ × ℕ × ℕ
end_at ss e = (get_or ss e.variable 0, e.state, e.restriction)

-- the end of a pair, where the restrictions of the variables are listed by their numbers
abbrev pub end_of : List ℕ → Pair ℕ → PlannedEnd
end_of restrictions x = record { variable = x.variable; state = x.state; restriction = get_or restrictions x.variable 0 }

-- the end of a pair on the right of a rule with this left-hand side
abbrev pub planned_end : List ℕ → SideFor ℕ Variable → Pair ℕ → PlannedEnd
planned_end labels left x = record { variable = x.variable; state = x.state; restriction = restriction labels (variable_at left x.variable).label }

-- the variables whose numbers are not among those named
abbrev pub left_out : List ℕ → List Variable → List Variable
left_out named [] = []
left_out named (x ∷ xs) = if list_any (nat_eq x.number) named then left_out named xs else x ∷ left_out named xs

-- the variables whose numbers are not marked
abbrev pub unmarked_of : List Bool → List Variable → List Variable
unmarked_of marks [] = []
unmarked_of marks (x ∷ xs) = if get_or marks x.number false then unmarked_of marks xs else x ∷ unmarked_of marks xs

-- the label that a variable asks for, and the state at its place
abbrev pub asked_at : List ℕ → Variable → Option ℕ × ℕ
asked_at ss x = (x.label, get_or ss x.number 0)

-- the ends of the pairs on the right, in preorder, whether each variable is in one of them, and the
-- variables that are in none
pub record IsPlan (labels : List ℕ) (rule : TransducerRule ℕ) (plan : Plan) : Type 0 where
  pub ends : plan.ends.items ≡ map (planned_end labels rule.left) (holes_of rule.right)
  pub many : length plan.kept.items ≡ length (variables_of rule.left)
  pub kept : (i : ℕ) → i < length (variables_of rule.left) → get_or plan.kept.items i false ≡ list_any (nat_eq i) (variables_in rule.right)
  pub left_out : plan.left_out.items ≡ left_out (variables_in rule.right) (variables_of rule.left)

-- a plan for each rule
abbrev pub ArePlans : List ℕ → List (TransducerRule ℕ) → List Plan → Type 0
ArePlans labels rules plans = Along (IsPlan labels) rules plans

-- the plan of each rule is at its position
pub record HasPlans (labels : List ℕ) (rules : List (TransducerRule ℕ)) (plans : List Plan) : Type 0 where
  pub many : length plans ≡ length rules
  pub plan_at : (n : ℕ) (d : Plan) → n < length rules → IsPlan labels (transducer_rule rules n) (get_or plans n d)
