use Rattle.tib_key_edges.proofs.laws.reached_set_is_one.Goals as goal
use Rattle.tib_key_edges.specs.Keyed.{Told}
use Rattle.tib_key_edges.proofs.KeyOrders.{one_set}

pub returns : goal.returns
returns g c cmp total start edge ends_of key_parts edge_parts one order other es fs h k =
    one_set cmp start (Told edge) ends_of key_parts edge_parts total one order other es fs h k
