-- The lists of several states.
use Rattle.std.specs.Prelude.{◌≡◌, ◌⊎◌, ◌↔◌, ℕ, ◌<◌, List, [], length, sum_by}
use Rattle.std.proofs.Common.{get_or}
use Rattle.tib_lex.specs.Lists.{Has, Ascends}
use Rattle.tib_tree.specs.Trees.{Tree}
use Rattle.tib_grammar.specs.declared.Rule.{Rule}
use Rattle.tib_inside.specs.Useful.{IsUseful}
use Rattle.tib_ranked_trees.specs.Best.{Costed, IsFrontAt}
use Rattle.tib_ranked_trees.specs.declared.lists.Entry.{Entry}
use Rattle.tib_k_best.specs.Listing.{AreListed}

-- how many entries all lists have together
abbrev pub entries_in : List (List Costed) → ℕ
entries_in ls = sum_by (λ (ys : List Costed). length ys) ls

-- the start has a list, the trees of each list are there, and the steps are the entries of all
-- lists
pub record IsCounted (trees : List (Tree ℕ)) (ls : List (List Entry)) (steps : ℕ) : Type 0 where
  pub some : 0 < length ls
  pub listed : (q : ℕ) → AreListed trees (get_or ls q [])
  pub counted : steps ≡ sum_by (λ (es : List Entry). length es) ls

-- the lists of the start and of each useful state, in the order of the states, each a front of its
-- state's trees
pub record AreUsefulLists (product : ℕ → ℕ → ℕ) (labels : List (List ℕ)) (rules : List (Rule ℕ))
    (ls : List (List Costed)) : Type 0 where
  pub states : List ℕ
  pub ascend : Ascends ◌<◌ states
  pub are_states : (q : ℕ) → Has states q ↔ ((q ≡ 0) ⊎ IsUseful product rules q)
  pub long : length ls ≡ length states
  pub fronts :
      (i : ℕ) → i < length states →
      IsFrontAt product labels rules (get_or states i 0) (get_or ls i [])
