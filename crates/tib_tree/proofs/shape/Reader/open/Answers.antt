use Rattle.std.proofs.Common.{refl}
use Rattle.tib_tree.proofs.Shaping.{shaped_open, not_some}
use Rattle.tib_tree.proofs.shape.Reader.open.Goals as goal

pub returns-clause-shaped : goal.returns-clause-shaped
returns-clause-shaped c = λ _.
    shaped_open c.args.self.now _ c.in-Some.level c.requires (not_some c.is_some.result c.args.self.now.held c.is_some.ensures c.if-is_some.false) c.in-Some.ensures.items refl refl refl refl
