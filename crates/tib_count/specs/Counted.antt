-- The runs and the trees of a grammar, as sets that are counted.
use Rattle.std.specs.Prelude.{◌≡◌, ℕ, ◌<◌, List, [], ◌∷◌, length}
use Rattle.tib_tree.specs.Trees.{Tree, Trees, only}
use Rattle.tib_lex.specs.Lists.{Has}
use Rattle.tib_grammar.specs.Sides.{holes_of}
use Rattle.tib_grammar.specs.Run.{AreRuns, yields, rule_at}
use Rattle.tib_grammar.specs.declared.Rule.{Rule}

-- a run from a state, whatever it costs
abbrev pub IsRunFrom : List (Rule ℕ) → ℕ → Trees ℕ → Type 0
IsRunFrom rules q run = AreRuns rules (q ∷ []) run

-- a run from the start, whatever it costs
abbrev pub IsRun : List (Rule ℕ) → Trees ℕ → Type 0
IsRun rules run = IsRunFrom rules 0 run

-- a tree that some run from the start yields
pub record IsTree (rules : List (Rule ℕ)) (t : Tree ℕ) : Type 0 where
  pub run : Trees ℕ
  pub is_run : IsRun rules run
  pub yielded : yields rules run ≡ only t

-- each state in a right-hand side has a run
abbrev pub HaveRuns : List (Rule ℕ) → Type 0
HaveRuns rules = (n q : ℕ) → n < length rules → Has (holes_of (rule_at rules n).right) q → (run : Trees ℕ) × IsRunFrom rules q run
