use Rattle.std.specs.Prelude.{◌≡◌, ℕ, ◌<◌, List, length}
use Rattle.std.proofs.Common.{subst}
use Rattle.tib_tree.specs.Trees.{Tree}
use Rattle.tib_ranked_trees.specs.Seen.{tree_at}
use Rattle.tib_ranked_trees.proofs.Seeing.{once}
use Rattle.tib_ranked_trees.proofs.shared.Shared.is_distinct.Goals as goal

pub returns : goal.returns
returns c = record {
  once =
      subst (λ (ts : List (Tree ℕ)). (m n : ℕ) → m < length ts → n < length ts → tree_at ts m ≡ tree_at ts n → m ≡ n) c.self.view_is
      (once c.self.inside.trees c.self.invariant c.numbers_name_trees.ensures c.len.ensures.distinct);
}
