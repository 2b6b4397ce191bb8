use Rattle.tib_lazy_lists.proofs.Begun.{rule_put}
use Rattle.tib_lazy_lists.proofs.beginning.add_rule.Goals as goal

pub returns : goal.returns
returns c = rule_put c.args.by_state.now.items c.args.state c.requires c.index_mut.result.now c.push.new.self c.index_mut.result.now c.args.rule c.index_mut.ensures.value c.in_ok-push.ensures.items
