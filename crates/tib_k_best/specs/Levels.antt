-- Rules that were trimmed, and their errors with the numbers that the states had before.
use Rattle.std.specs.Prelude.{◌≡◌, ℕ, ◌<◌, ◌≤◌, List, length}
use Rattle.std.proofs.Common.{get_or}
use Rattle.tib_grammar.specs.Range.{AreBelow, AreInRange}
use Rattle.tib_grammar.specs.Series.{HaveSameSeries}
use Rattle.tib_grammar.specs.declared.Rule.{Rule}
use Rattle.tib_inside.specs.Trimmed.{AreTrimmed, HaveSeriesOfEach}
use Rattle.tib_k_best.specs.declared.error.KBestError.{KBestError}
use Rattle.tib_k_best.specs.declared.error.KBestError.TheVariants.{TreeTooLarge, OutOfMemory}

-- the rules over the places of these states, each below a number, are what trimming keeps of the
-- others
pub record AreKept (product : ℕ → ℕ → ℕ) (old : List (Rule ℕ)) (count : ℕ)
    (states : List ℕ) (new : List (Rule ℕ)) : Type 0 where
  pub trimmed : AreTrimmed product old states new
  pub series : HaveSameSeries product old new
  pub each : HaveSeriesOfEach product old states new
  pub range : AreInRange (length states) new
  pub some : 0 < length states
  pub few : length states ≤ count
  pub below : AreBelow count states

-- the state that an error names is below a number
abbrev pub NamesBelow : ℕ → KBestError → Type 0
NamesBelow n (TreeTooLarge q) = q < n
NamesBelow n OutOfMemory = Unit {0}

-- the same error with another number
abbrev pub IsRenamed : List ℕ → KBestError → KBestError → Type 0
IsRenamed states (TreeTooLarge q) e = e ≡ TreeTooLarge (get_or states q 0)
IsRenamed states OutOfMemory e = e ≡ OutOfMemory
