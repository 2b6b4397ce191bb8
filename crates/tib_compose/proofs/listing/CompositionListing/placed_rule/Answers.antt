use Rattle.std.proofs.Common.{ap, arith, length, subst, sym}
use Rattle.tib_tree.specs.Trees.{IsOneTree}
use Rattle.tib_grammar.specs.Items.{pairs_of}
use Rattle.tib_compose.proofs.Listed.{length-placed}
use Rattle.tib_compose.proofs.Outputs.{placed_tree}
use Rattle.tib_compose.proofs.listing.CompositionListing.placed_rule.Goals as goal

pub placed_side-right-requires-clause-few : goal.placed_side-right-requires-clause-few
placed_side-right-requires-clause-few c = omega (arith, c.if-done-gt4000000000.false, ap length c.in_ok-items.ensures.items, length-placed (length c.args.self.now.ends.items) c.args.done.now)

pub placed_side-right-requires-clause-tree : goal.placed_side-right-requires-clause-tree
placed_side-right-requires-clause-tree c =
    subst (λ xs. IsOneTree (pairs_of xs)) (sym c.in_ok-items.ensures.items) (placed_tree (length c.args.self.now.ends.items) c.args.done.now c.requires.tree)
