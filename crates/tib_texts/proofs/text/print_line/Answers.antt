use Rattle.std.proofs.Common.{refl}
use Rattle.tib_io.specs.Writing.{joined, cut_off}
use Rattle.tib_operations.specs.Text.{cost_text}
use Rattle.tib_texts.proofs.text.print_line.Goals as goal

pub returns-in-Ok : goal.returns-in-Ok
returns-in-Ok g c = joined _ _ _ _ _ _ _ _ _ c.in-Ok.is refl c.print_tree.ensures c.print_cost.ensures

pub returns-in-Err : goal.returns-in-Err
returns-in-Err g c = cut_off _ _ _ (cost_text g.S.Semiring.SCALE c.args.cost) _ _ _ _ _ c.in-Err.is refl refl c.print_tree.ensures
