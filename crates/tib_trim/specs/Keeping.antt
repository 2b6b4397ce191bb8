-- Which rules are kept, and at which through costs.
use Rattle.std.specs.Prelude.{◌≡◌, ℕ, ◌<◌, List, map, filter, length, Option, Some}
use Rattle.std.specs.Option.{is_some}
use Rattle.tib_lex.specs.Lists.{Has}
use Rattle.tib_grammar.specs.GrammarOf.{GrammarOf}
use Rattle.tib_grammar.specs.Range.{IsLeftIn}
use Rattle.tib_grammar.specs.Run.{rule_at}
use Rattle.tib_grammar.specs.Sides.{holes_of}
use Rattle.tib_grammar.specs.declared.Rule.{Rule}
use Rattle.tib_inside.specs.Settling.{costs_in}
use Rattle.tib_prune.specs.Outside.{through}
use Rattle.tib_trim.specs.TrimmedFile.{AreInCompleteRuns, AreThroughCosts, IsTrimmedFile}

-- these are the rules that have through costs, in order, and these are the costs
pub record AreFiltered (product : ℕ → ℕ → ℕ) (insides outsides : List (Option ℕ))
    (rules kept : List (Rule ℕ)) (costs : List ℕ) : Type 0 where
  pub are_rules : kept ≡ filter (λ r. is_some (through product (costs_in insides) (costs_in outsides) r)) rules
  pub are_costs : map Some costs ≡ map (through product (costs_in insides) (costs_in outsides)) kept

-- these are the rules that are in complete runs, in order, and these are their through costs
pub record AreKept (product : ℕ → ℕ → ℕ) (rules kept : List (Rule ℕ)) (costs : List ℕ) : Type 0 where
  pub positions : List ℕ
  pub are_kept : AreInCompleteRuns product rules positions
  pub are_rules : kept ≡ map (rule_at rules) positions
  pub are_costs : AreThroughCosts product rules positions costs

-- each state in the right side of a rule has a rule
abbrev pub AreClosed : List (Rule ℕ) → Type 0
AreClosed rules =
    (n q : ℕ) → n < length rules → Has (holes_of (rule_at rules n).right) q → IsLeftIn rules q

-- the trimmed file, and the through costs of its rules
pub record IsTrimmedWith (product : ℕ → ℕ → ℕ) (old new : GrammarOf) (costs : List ℕ) : Type 0 where
  pub is_trimmed : IsTrimmedFile product old new
  pub are_costs : AreThroughCosts product old.rules is_trimmed.positions costs
