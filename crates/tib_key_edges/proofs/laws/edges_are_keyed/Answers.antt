use Rattle.tib_key_edges.proofs.laws.edges_are_keyed.Goals as goal
use Rattle.tib_key_edges.specs.Keyed.{Told}
use Rattle.tib_key_edges.proofs.KeyOrders.{edges_below}

pub returns : goal.returns
returns g c cmp start edge ends_of key_parts edge_parts order n es h =
    edges_below cmp start (Told edge) ends_of key_parts edge_parts order n es h
