use Rattle.std.proofs.Common.{◌≡◌, drop}
use Rattle.tib_grammar.specs.Items.{pairs_of}
use Rattle.tib_image.specs.Walk.{with_nodes, walk}
use Rattle.tib_image.proofs.walk.match_items.Given as goal

abbrev pub invariant-loop-item : goal.invariant-loop-item
invariant-loop-item l = with_nodes l.found.items (walk (pairs_of (drop l.item-index l.left)) l.nodes l.next) ≡ walk (pairs_of l.left) l.nodes l.first
