use Rattle.std.proofs.Common.{length}
use Rattle.tib_ranked_trees.proofs.Placed.{ArePlaced}
use Rattle.tib_ranked_trees.proofs.text_ranks.places_in.Given as goal

abbrev pub invariant-loop-place : goal.invariant-loop-place
invariant-loop-place l = ArePlaced l.order l.ranks.items (length l.labels) l.place
