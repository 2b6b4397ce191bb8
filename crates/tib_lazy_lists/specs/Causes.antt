-- The causes of errors.
use Rattle.std.specs.Prelude.{ℕ}
use Rattle.tib_ranked_trees.specs.Best.{HasLarge}
use Rattle.tib_ranked_trees.specs.ListsOf.{ListsOf}
use Rattle.tib_lazy_lists.specs.declared.error.AskError.{AskError}
use Rattle.tib_lazy_lists.specs.declared.error.AskError.TheVariants.{TreeTooLarge, OutOfMemory}

-- a state has a large tree among its k least
abbrev pub IsAskCause : (ℕ → ℕ → ℕ) → ListsOf → ℕ → AskError → Type 0
IsAskCause product x k (TreeTooLarge q) = HasLarge product x.labels x.rules k q
IsAskCause product x k OutOfMemory = Unit {0}
