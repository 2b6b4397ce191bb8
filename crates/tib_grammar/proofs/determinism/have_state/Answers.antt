use Rattle.std.proofs.Common.{arith, ap, ◌∙◌}
use Rattle.tib_grammar.specs.declared.Item.TheVariants.{Hole}
use Rattle.tib_grammar.proofs.Holes.{none_has, has_hole}
use Rattle.tib_grammar.proofs.determinism.have_state.Goals as goal

pub returns-then-found-state-clause-yes : goal.returns-then-found-state-clause-yes
returns-then-found-state-clause-yes c = λ _.
    has_hole c.args.state c.args.items.now c.loop-item.item-index (omega arith) (c.in-Hole.is ∙ ap Hole c.if-found-state.true)

pub returns-clause-no : goal.returns-clause-no
returns-clause-no c = λ _. none_has c.args.state c.args.items.now (λ k b. c.loop-item.invariant k (omega arith))
