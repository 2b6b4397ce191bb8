use Rattle.std.proofs.Common.{◌∙◌}
use Rattle.tib_table.proofs.FreshKeys.{still_placed}
use Rattle.tib_table.proofs.fresh.push_fresh.Goals as goal

pub returns-clause-placed : goal.returns-clause-placed
returns-clause-placed g c = still_placed c.args.fresh.now.items c.push.new.self.items c.args.key c.len-place.result c.requires.placed (c.len-place.ensures ∙ c.args.fresh.now.ok.0) c.in-Ok.ensures.items
