use Rattle.std.proofs.Common.{refl}
use Rattle.tib_tree.proofs.Shaping.{shaped_start}
use Rattle.tib_tree.proofs.shape.Reader.clear.Goals as goal

pub returns-clause-shaped : goal.returns-clause-shaped
returns-clause-shaped c = shaped_start _ c.clear.ensures.items refl c.clear-2.ensures.items refl refl
