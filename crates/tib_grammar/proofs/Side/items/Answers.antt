use Rattle.std.proofs.Common.{ap, sym, ◌∙◌}
use Rattle.tib_tree.specs.Trees.{preorder_of}
use Rattle.tib_grammar.proofs.Holes.{HolesAreLeaves-items}
use Rattle.tib_grammar.proofs.Side.items.Goals as goal

pub returns-clause-leaves : goal.returns-clause-leaves
returns-clause-leaves g c = HolesAreLeaves-items c.self.inside.items.items c.args.self.now (sym c.self.invariant ∙ ap preorder_of c.self.view_is)
