-- `prune`: the part of a grammar that stays within a beam of its cheapest tree.
use Rattle.tib_cost.specs.declared.Scale.{Scale}
use Rattle.std.specs.Prelude.{◌≡◌, ℕ, ◌≤◌, List}
use Rattle.tib_grammar.specs.GrammarOf.{GrammarOf}
use Rattle.tib_grammar.specs.Series.{HaveSameSeries}
use Rattle.tib_grammar.specs.declared.Rule.{Rule}
use Rattle.tib_cost.specs.Semiring.{most}
use Rattle.tib_prune.specs.Pruned.{IsPruned, KeepsCheapTrees, HadNoGreaterCosts, StandInCheapRuns}
use Rattle.tib_canon.specs.Canonical.{IsCanonical}
use Rattle.tib_canon.specs.Constructions.{HasGrammarText}
use Rattle.tib_canon.specs.TrimmedForms.{IsTrimmedForm}
use Rattle.tib_operations.specs.Made.{Made, normal_form}

-- a beam that a command may have
abbrev pub IsBeam : ℕ → Type 0
IsBeam beam = beam ≤ most

-- `kept` is what pruning leaves of a trimmed normal form of the grammar: all its states, and its
-- rules within the beam
pub record IsPrunedForm (product : ℕ → ℕ → ℕ) (beam : ℕ) (g kept : GrammarOf) : Type 0 where
  pub form : GrammarOf
  pub is_form : IsTrimmedForm product g form
  pub pruned : IsPruned product beam form kept

-- By the costs of the old rules, where within the beam is what costs at most the inside cost of
-- their start and the beam: each tree within the beam has the same cost by the new rules, each tree
-- that has a cost by the new rules had one that is not greater, and each new rule is in a run of
-- new rules from the start that is within the beam.
pub record KeepsWithin (product : ℕ → ℕ → ℕ) (rules : List (Rule ℕ)) (beam : ℕ) (new : List (Rule ℕ)) : Type 0 where
  pub cheap : KeepsCheapTrees product rules beam new
  pub costs : HadNoGreaterCosts product rules new
  pub runs : StandInCheapRuns product rules beam new

-- The text is that of the canonical form of what is left, has its series, and reads back as this
-- form; and what is left keeps what is within the beam, by the costs of the grammar itself.
pub record HasPruneText (scale : Scale) (product : ℕ → ℕ → ℕ) (beam : ℕ) (labels : List (List ℕ)) (g : GrammarOf) (text : List ℕ) : Type 0 where
  pub kept : GrammarOf
  pub is_kept : IsPrunedForm product beam g kept
  pub keeps : KeepsWithin product g.rules beam kept.rules
  pub printed : HasGrammarText scale labels (IsCanonical product scale labels kept) (HaveSameSeries product kept.rules) text

-- the text is that of this canonical form
abbrev pub IsPruneText : Scale → (ℕ → ℕ → ℕ) → ℕ → List (List ℕ) → GrammarOf → List ℕ → GrammarOf → Type 0
IsPruneText scale product beam labels g text h = (d : HasPruneText scale product beam labels g text) × (d.printed.h ≡ h)

-- the normal form of the grammar
abbrev pub prune_makes : (ℕ → ℕ → ℕ) → ℕ → GrammarOf → Made
prune_makes product limit g = normal_form product limit g
