use Rattle.std.proofs.Common.{arith, rules}
use Rattle.tib_transducer.proofs.Labels.{label_at}
use Rattle.tib_transducer.proofs.rules.have_label.Goals as goal

pub returns-then-is_some-clause-yes : goal.returns-then-is_some-clause-yes
returns-then-is_some-clause-yes c = λ _.
    label_at c.args.items.now c.loop-item.item-index c.in-Hole.variable (omega arith) c.in-Hole.is (search rules)
