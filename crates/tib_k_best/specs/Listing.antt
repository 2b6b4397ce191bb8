-- What the list of best trees holds.
use Rattle.std.specs.Prelude.{◌^◌, ◌<◌, ◌≤◌, ℕ, List, length, map}
use Rattle.std.specs.Coded.{Coded, coded×, coded_list, coded_ℕ}
use Rattle.std.proofs.Common.{get_or}
use Rattle.tib_tree.specs.Trees.{Tree, most_nodes, size, tree_code}
use Rattle.tib_ranked_trees.specs.Best.{Costed}
use Rattle.tib_ranked_trees.specs.Held.{no_entry, told}
use Rattle.tib_ranked_trees.specs.Seen.{tree_at}
use Rattle.tib_ranked_trees.specs.declared.lists.Entry.{Entry}

-- trees with costs are stored as pairs
abbrev pub costed_code : Coded (List Costed)
costed_code = coded_list (coded× (tree_code coded_ℕ) coded_ℕ)

-- entries as trees with their costs
abbrev pub costed : List (Tree ℕ) → List Entry → List Costed
costed trees es = map (told trees) es

-- the tree of each entry is there, and has at most 10,000 nodes; the entries are fewer than 2^32
pub record AreListed (trees : List (Tree ℕ)) (es : List Entry) : Type 0 where
  pub few : length es < 2 ^ 32
  pub there : (i : ℕ) → i < length es → (get_or es i no_entry).tree < length trees
  pub small : (i : ℕ) → i < length es → size (tree_at trees (get_or es i no_entry).tree) ≤ most_nodes
