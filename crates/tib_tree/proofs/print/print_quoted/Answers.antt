use Rattle.std.proofs.Common.{refl, ◌∷◌, []}
use Rattle.tib_tree.proofs.Writing.{joined, cut_off}
use Rattle.tib_tree.proofs.print.print_quoted.Goals as goal

pub returns-in-Ok-print_escaped : goal.returns-in-Ok-print_escaped
returns-in-Ok-print_escaped g c = joined _ _ _ _ _ _ _ _ _ c.in-Ok-print_escaped.is refl (joined _ _ _ _ _ _ _ _ _ c.in-Ok.is refl c.print_piece.ensures c.print_escaped.ensures) c.print_piece-in-Ok-print_escaped.ensures

pub returns-in-Err-print_escaped : goal.returns-in-Err-print_escaped
returns-in-Err-print_escaped g c = cut_off _ _ _ (34 ∷ []) _ _ _ _ _ c.in-Err-print_escaped.is refl refl (joined _ _ _ _ _ _ _ _ _ c.in-Ok.is refl c.print_piece.ensures c.print_escaped.ensures)
