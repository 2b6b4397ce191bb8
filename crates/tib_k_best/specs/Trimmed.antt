-- Rules whose states all have trees.
use Rattle.std.specs.Prelude.{ℕ, ◌<◌, List, length}
use Rattle.std.proofs.Common.{get_or}
use Rattle.tib_grammar.specs.Forms.{AreNormal}
use Rattle.tib_grammar.specs.GrammarOf.{GrammarOf}
use Rattle.tib_grammar.specs.declared.Rule.{Rule}
use Rattle.tib_inside.specs.Trimmed.{HasSeriesOfEach, IsTrimmed}
use Rattle.tib_ranked_trees.specs.Best.{Costed, IsTreeAt}
use Rattle.tib_ranked_trees.specs.Levels.{states_at}

-- each state below a rule has a tree
abbrev pub HaveTreesBelow : (ℕ → ℕ → ℕ) → List (Rule ℕ) → Type 0
HaveTreesBelow product rules =
    (n : ℕ) → n < length rules → (i : ℕ) → i < length (states_at rules n) →
    ((y : Costed) → IsTreeAt product rules (get_or (states_at rules n) i 0) y → ⊥) → ⊥

-- this holds in a trimmed grammar
abbrev pub TrimmedHasTrees : (ℕ → ℕ → ℕ) → Type 0
TrimmedHasTrees product =
    (old new : GrammarOf) → AreNormal old.rules → AreNormal new.rules →
    IsTrimmed product old new → HasSeriesOfEach product old new → HaveTreesBelow product new.rules
