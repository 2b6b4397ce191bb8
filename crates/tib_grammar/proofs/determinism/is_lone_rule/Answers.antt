use Rattle.tib_grammar.proofs.Holes.{IsLoneState-from}
use Rattle.tib_grammar.proofs.determinism.is_lone_rule.Goals as goal

pub returns-clause-yes : goal.returns-clause-yes
returns-clause-yes c = λ t. IsLoneState-from c.items-items.result.now c.args.rule.now.right c.items-items.ensures.items c.items-items.ensures.leaves (c.is_hole.ensures.0 t)
