use Rattle.tib_apply.proofs.ForwardTables.{table_edges}
use Rattle.tib_apply.proofs.laws.table_edges_are_forward.Goals as goal

pub returns : goal.returns
returns g c = table_edges g.met.S.Semiring.laws
