use Rattle.std.proofs.Common.{◌∙◌}
use Rattle.tib_difference.proofs.Halving.{found_holds}
use Rattle.tib_difference.proofs.subset_key.is_among_ascending.Goals as goal

pub returns : goal.returns
returns c = c.is_ok.ensures.value ∙ found_holds c.args.states.now c.args.state c.binary_search.result c.requires c.binary_search.ensures.position
