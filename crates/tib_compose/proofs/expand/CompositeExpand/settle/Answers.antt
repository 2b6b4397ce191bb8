use Rattle.std.proofs.Common.{◌≡◌}
use Rattle.std.proofs.lemmas.Result.{IfOk-weaker}
use Rattle.tib_compose.proofs.Settled.{settled_alike, settled_positions}
use Rattle.tib_compose.proofs.expand.CompositeExpand.settle.Goals as goal

pub returns : goal.returns
returns g c = record {
  read = IfOk-weaker c.settled_rule.result _ _ (λ r e. settled_alike c.args.ends.now c.args.rule.now r e) c.settled_rule.ensures;
  positions = IfOk-weaker c.settled_rule.result _ _ (λ r e. settled_positions c.args.ends.now c.args.rule.now r e) c.settled_rule.ensures;
}
