-- Two grammars side by side.
use Rattle.std.specs.Prelude.{◌↔◌, ℕ, ◌+◌, ◌<◌, ◌^◌, max, List, ◌++◌, length, map, Option}
use Rattle.tib_lex.specs.Lists.{Has}
use Rattle.tib_tree.specs.Trees.{Tree}
use Rattle.tib_grammar.specs.Sides.{over}
use Rattle.tib_grammar.specs.Series.{IsSeriesAt}
use Rattle.tib_grammar.specs.Forms.{AreNormal}
use Rattle.tib_grammar.specs.Range.{AreInRange}
use Rattle.tib_grammar.specs.declared.Rule.{Rule}
use Rattle.tib_ranked_trees.specs.Levels.{root_of, states_of}
use Rattle.tib_grammar.specs.Run.{rule_at, AreFree}

-- a rule's label over its states, each raised by a number, from a left state and at a cost
abbrev pub moved : ℕ → ℕ → ℕ → Rule ℕ → Rule ℕ
moved left by cost r =
    record { left = left; right = over (root_of r.right.label) (map (λ q. by + q) (states_of r)); cost = cost }

-- a number can be added to each state of a rule
pub record CanRaise (by : ℕ) (r : Rule ℕ) : Type 0 where
  pub left : by + r.left < 2 ^ 32
  pub states : (q : ℕ) → Has (states_of r) q → by + q < 2 ^ 32

-- and to each state of some rules
abbrev pub CanRaiseAll : ℕ → List (Rule ℕ) → Type 0
CanRaiseAll by rules = (n : ℕ) → n < length rules → CanRaise by (rule_at rules n)

-- the rules with all their states raised by a number, at no cost
abbrev pub raised : ℕ → List (Rule ℕ) → List (Rule ℕ)
raised by rules = map (λ (r : Rule ℕ). moved (by + r.left) by 0 r) rules

-- The rules of both, where the states of the second come after the first ones of the left.
abbrev pub beside : ℕ → List (Rule ℕ) → List (Rule ℕ) → List (Rule ℕ)
beside first left right = raised 0 left ++ raised first right

-- Side by side each grammar has its series: that of the left at its states, that of the right at
-- those after them.
pub record KeepBoth (first : ℕ) (left right : List (Rule ℕ)) : Type 0 where
  pub of_left : (q : ℕ) → q < first → (t : Tree ℕ) (v : Option ℕ) →
      IsSeriesAt max left q t v ↔ IsSeriesAt max (beside first left right) q t v
  pub of_right : (q : ℕ) (t : Tree ℕ) (v : Option ℕ) →
      IsSeriesAt max right q t v ↔ IsSeriesAt max (beside first left right) (first + q) t v

abbrev pub SideBySideKeepsBoth : Type 0
SideBySideKeepsBoth =
    (first : ℕ) (left right : List (Rule ℕ)) → AreNormal left → AreNormal right → AreFree left → AreFree right →
    AreInRange first left → KeepBoth first left right
