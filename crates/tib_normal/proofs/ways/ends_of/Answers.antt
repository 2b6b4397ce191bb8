use Rattle.std.proofs.Common.{arith, ap, length, length-append, ◌∷◌, []}
use Rattle.std.proofs.lemmas.List.{get_or_read}
use Rattle.tib_grammar.specs.Run.{no_rule}
use Rattle.tib_normal.proofs.Ending.{ends-more}
use Rattle.tib_normal.proofs.ways.ends_of.Goals as goal

pub loop-rule-preserved : goal.loop-rule-preserved
loop-rule-preserved c = record {
  long = omega (arith, ap length c.in_ok-push.ensures.items, length-append c.loop-rule.ends.items (c.end_of.result ∷ []), c.loop-rule.invariant.long);
  each =
      ends-more c.args.rules.now c.loop-rule.ends.items c.push.new.self.items c.loop-rule.rule-index c.end_of.result c.rule-item.result
      (get_or_read c.args.rules.now c.loop-rule.rule-index c.rule-item.result c.loop-rule-test.true c.rule-item.is no_rule) c.loop-rule.invariant.long c.in_ok-push.ensures.items c.loop-rule.invariant.each c.end_of.ensures;
}
