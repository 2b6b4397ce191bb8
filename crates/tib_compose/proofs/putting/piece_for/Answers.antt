use Rattle.std.proofs.Common.{◌<◌, ◌+◌, arith, ap, sym, ◌∙◌, subst}
use Rattle.tib_compose.specs.PieceViews.{IsKnown, piece_below}
use Rattle.tib_compose.proofs.Skipping.{skipped_low}
use Rattle.tib_compose.proofs.Taking.{hole_below, ends_from}
use Rattle.tib_compose.proofs.putting.piece_for.Goals as goal

pub returns-in-Hole-clause-piece : goal.returns-in-Hole-clause-piece
returns-in-Hole-clause-piece c = λ pairs long known.
    hole_below pairs c.args.ends.now c.args.node c.skip.result c.in-Hole.pair (c.skip.ensures pairs long (ends_from pairs c.args.ends.now (c.args.node + 1) known))
    ∙ ap (piece_below pairs c.args.node) (sym c.in-Hole.is)

pub returns-in-Hole-clause-node : goal.returns-in-Hole-clause-node
returns-in-Hole-clause-node c = λ pairs long known rank is few.
    let low : c.in-Hole.pair.variable < rank = subst (IsKnown rank) c.in-Hole.is is in
    skipped_low pairs (c.args.node + 1) c.in-Hole.pair.variable c.skip.result (c.skip.ensures pairs long (ends_from pairs c.args.ends.now (c.args.node + 1) known)) (omega (arith, low, few))
