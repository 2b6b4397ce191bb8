use Rattle.std.proofs.Common.{arith}
use Rattle.tib_determinize.proofs.Occurring.{next_rule}
use Rattle.tib_determinize.proofs.occurrences.Occurrences.new.Goals as goal

pub loop-rule-preserved : goal.loop-rule-preserved
loop-rule-preserved c = next_rule c.args.rules.now c.args.many c.loop-rule.rule c.loop-rule.lists.items c.add_rule.new.lists.items c.in_ok-add_rule.ensures.more c.in_ok-add_rule.ensures.own c.loop-rule.invariant

pub returns : goal.returns
returns c = λ m j low in_rank. let done = c.loop-rule-test.false in c.loop-rule.invariant m j (omega (arith, low, done)) in_rank
