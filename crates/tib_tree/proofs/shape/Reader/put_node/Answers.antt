use Rattle.std.proofs.Common.{arith, refl}
use Rattle.tib_tree.proofs.Shaping.{shaped_node, before_within}
use Rattle.tib_tree.proofs.shape.Reader.put_node.Goals as goal

pub overflow_sub-place : goal.overflow_sub-place
overflow_sub-place c = omega (arith, before_within c.args.self.now c.requires.shaped, c.len.ensures, c.args.self.now.places.ok.0)

pub returns-clause-shaped : goal.returns-clause-shaped
returns-clause-shaped c =
    shaped_node c.args.self.now _ _ c.requires.shaped c.in_ok-push.ensures.items refl
    (omega (arith, c.len.ensures, c.args.self.now.places.ok.0))
    (omega (arith, c.len-2.ensures, c.args.self.now.above.ok.0))
    refl refl refl
    (omega (arith, c.len.ensures, c.args.self.now.places.ok.0))
