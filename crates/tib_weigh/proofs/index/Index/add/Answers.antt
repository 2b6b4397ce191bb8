use Rattle.std.specs.HashMap.{get}
use Rattle.tib_normal.specs.Index.{same_shape}
use Rattle.tib_weigh.proofs.Served.{index_more}
use Rattle.tib_weigh.proofs.index.Index.add.Goals as goal

pub returns : goal.returns
returns g c =
    index_more g.S.Semiring.product c.args.normal.now.rules (get same_shape c.args.self.now.shapes) (get same_shape c.insert.new.self) c.args.label c.args.rank c.in_ok-shape.shape c.in_ok-insert.ensures.updates.0
    c.in_ok-shape.ensures c.requires
