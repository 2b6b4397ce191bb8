use Rattle.std.specs.HashMap.{get}
use Rattle.std.proofs.lemmas.List.{get_or_read}
use Rattle.tib_grammar.specs.Run.{no_rule}
use Rattle.tib_apply.specs.LeastRuns.{same_start}
use Rattle.tib_apply.proofs.RunCosts.{begun_next}
use Rattle.tib_apply.proofs.deleting.begun_costs.Goals as goal

pub loop-rule-preserved : goal.loop-rule-preserved
loop-rule-preserved g c =
    let at = get_or_read c.args.rules.now c.loop-rule.rule-index c.rule-item.result c.loop-rule-test.true c.rule-item.is no_rule in
    begun_next g.S.Semiring.product c.args.insides.now c.args.rules.now c.loop-rule.rule-index c.rule-item.result at (get same_start c.loop-rule.begun) (get same_start c.add_begun.new.begun) c.loop-rule.invariant c.in_ok-add_begun.ensures
