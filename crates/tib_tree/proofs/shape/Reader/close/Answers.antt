use Rattle.std.proofs.Common.{refl}
use Rattle.tib_tree.proofs.Shaping.{shaped_close, not_some}
use Rattle.tib_tree.proofs.shape.Reader.close.Goals as goal

pub returns-clause-shaped : goal.returns-clause-shaped
returns-clause-shaped c = λ _.
    let free = not_some c.is_some.result c.args.self.now.held c.is_some.ensures c.if-is_some.false in
    shaped_close c.args.self.now _ _ c.requires free free refl refl c.in_ok-push.ensures.items refl refl refl
