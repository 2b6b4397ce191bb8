use Rattle.tib_key_edges.proofs.laws.orders_begin.Goals as goal
use Rattle.tib_key_edges.specs.Keyed.{Told}
use Rattle.tib_key_edges.proofs.KeyOrders.{order_begins}

pub returns : goal.returns
returns g c cmp total start edge ends_of key_parts edge_parts rounds expanded order h =
    order_begins cmp start (Told edge) ends_of key_parts edge_parts total rounds expanded order h
