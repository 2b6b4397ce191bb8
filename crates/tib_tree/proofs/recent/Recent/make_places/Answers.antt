use Rattle.tib_tree.proofs.Keys.{nothing_seen}
use Rattle.tib_tree.proofs.recent.Recent.make_places.Goals as goal

pub returns-in_ok-places : goal.returns-in_ok-places
returns-in_ok-places c = λ texts _. nothing_seen texts c.in_ok-places.places.items 16384 (c.in_ok-places.ensures.items_if_clones_equal (λ y e. e))
