-- The causes of errors.
use Rattle.std.specs.Prelude.{◌≡◌, ℕ, Bool, List}
use Rattle.tib_grammar.specs.declared.Rule.{Rule}
use Rattle.tib_inside.specs.Useful.{IsUseful}
use Rattle.tib_ranked_trees.specs.Best.{HasLarge}
use Rattle.tib_ranked_trees.specs.Levels.{IsLevel}
use Rattle.tib_lazy_lists.specs.declared.error.AskError.{AskError}
use Rattle.tib_lazy_lists.specs.declared.error.AskError.TheVariants.{TreeTooLarge as AskedTooLarge, OutOfMemory as AskedOutOfMemory}
use Rattle.tib_k_best.specs.declared.error.KBestError.{KBestError}
use Rattle.tib_k_best.specs.declared.error.KBestError.TheVariants.{TreeTooLarge, OutOfMemory}

-- a state has a large tree among its k least
abbrev pub IsCause : (ℕ → ℕ → ℕ) → List (List ℕ) → List (Rule ℕ) → ℕ → KBestError → Type 0
IsCause product labels rules k (TreeTooLarge q) = HasLarge product labels rules k q
IsCause product labels rules k OutOfMemory = Unit {0}

-- a useful state has a large tree among its k least
abbrev pub IsUsefulCause : (ℕ → ℕ → ℕ) → List (List ℕ) → List (Rule ℕ) → ℕ → KBestError → Type 0
IsUsefulCause product labels rules k (TreeTooLarge q) =
    IsUseful product rules q × HasLarge product labels rules k q
IsUsefulCause product labels rules k OutOfMemory = Unit {0}

-- a state that is useful in some level has it there
abbrev pub IsLevelCause : Bool → (ℕ → ℕ → ℕ) → List (List ℕ) → List (Rule ℕ) → ℕ → KBestError → Type 0
IsLevelCause levelled product labels rules k (TreeTooLarge q) =
    (one : List (Rule ℕ)) × IsLevel levelled rules one × IsUseful product one q
    × HasLarge product labels one k q
IsLevelCause levelled product labels rules k OutOfMemory = Unit {0}

-- an error of asked lists as an error of the list of best trees
abbrev pub IsFaultOf : AskError → KBestError → Type 0
IsFaultOf (AskedTooLarge q) e = e ≡ TreeTooLarge q
IsFaultOf AskedOutOfMemory e = e ≡ OutOfMemory
