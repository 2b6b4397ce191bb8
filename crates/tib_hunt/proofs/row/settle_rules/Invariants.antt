use Rattle.std.proofs.Common.{take}
use Rattle.tib_hunt.specs.Rows.{Settles}
use Rattle.tib_hunt.proofs.row.settle_rules.Given as goal

abbrev pub invariant-loop-rule : goal.invariant-loop-rule
invariant-loop-rule g l = Settles g.E.Expand.reading l.ends l.fn.rules.items (take l.rule-index l.over) l.rules.items
