use Rattle.tib_lazy_lists.specs.AskingOf.{asking_of}
use Rattle.tib_lazy_lists.proofs.Rounded.{done_of}
use Rattle.tib_lazy_lists.proofs.asking.Asking.start_demand.Goals as goal

pub returns-in-None-clause-none : goal.returns-in-None-clause-none
returns-in-None-clause-none g c = done_of c.args.lists.now (asking_of c.args.self.now) c.len.result c.len.ensures c.in-None.ensures.none
