use Rattle.tib_weigh.proofs.Served.{found}
use Rattle.tib_weigh.proofs.index.Index.find.Goals as goal

pub returns : goal.returns
returns c product rules index = found product rules c.args.self.now c.args.label c.args.rank c.get.result c.get.ensures.value index
