use Rattle.std.proofs.Common.{arith, get_or}
use Rattle.tib_grammar.specs.declared.Item.TheVariants.{Label}
use Rattle.tib_grammar.proofs.Holes.{AllBelow-from, IsBelow-from, IsBelow}
use Rattle.tib_grammar.proofs.grammars.are_below.Goals as goal

pub returns-then-state-n-clause-no : goal.returns-then-state-n-clause-no
returns-then-state-n-clause-no c = λ _ all.
    let here : IsBelow c.args.n (get_or c.args.items.now c.loop-item.item-index (Label 0 0)) =
    IsBelow-from c.args.n c.args.items.now all c.loop-item.item-index (omega arith)
    in
    let small = rw c.in-Hole.is at here in
    absurd (omega (arith, small))

pub returns-clause-yes : goal.returns-clause-yes
returns-clause-yes c = λ _. AllBelow-from c.args.n c.args.items.now (λ k b. c.loop-item.invariant k (omega arith))
