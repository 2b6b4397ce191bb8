use Rattle.tib_lazy_lists.specs.AskingOf.{asking_of}
use Rattle.tib_lazy_lists.proofs.Rounded.{listed_first, within_first}
use Rattle.tib_lazy_lists.proofs.best.ask_lazily.Goals as goal

pub list_start-requires-clause-listed : goal.list_start-requires-clause-listed
list_start-requires-clause-listed g c = listed_first g.S.Semiring.product c.args.lists.now c.requires.firsts (asking_of c.in-Ok.asking) c.in-Ok.ensures.kept

pub list_start-requires-clause-within : goal.list_start-requires-clause-within
list_start-requires-clause-within g c = within_first g.S.Semiring.product c.args.lists.now c.requires.firsts (asking_of c.in-Ok.asking) c.in-Ok.ensures.kept
