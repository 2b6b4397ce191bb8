use Rattle.std.proofs.Common.{ap, ◌∙◌, ℕ, List}
use Rattle.tib_grammar.specs.Sides.{over}
use Rattle.tib_determinize.proofs.Settled.{settled_reads, settled_positions}
use Rattle.tib_difference.proofs.expand.DifferenceExpand.settle.Goals as goal

pub returns-clause-read : goal.returns-clause-read
returns-clause-read g c = λ at.
    settled_reads at c.args.rule.now c.args.ends.now c.in_ok-right.right (c.in_ok-right.ensures ∙ ap (λ (ps : List ℕ). over c.args.rule.now.label ps) c.as_slice.ensures)

pub returns-clause-positions : goal.returns-clause-positions
returns-clause-positions g c =
    settled_positions c.args.rule.now c.args.ends.now c.in_ok-right.right (c.in_ok-right.ensures ∙ ap (λ (ps : List ℕ). over c.args.rule.now.label ps) c.as_slice.ensures)
