use Rattle.std.proofs.Common.{refl}
use Rattle.tib_normal.proofs.Numbering.{gets_number}
use Rattle.tib_normal.proofs.sides.Sides.number.Goals as goal

pub returns-clause-number : goal.returns-clause-number
returns-clause-number c = gets_number c.args.side c.args.n c.in_ok-number.number c.args.self.now.table.keys c.insert_full.new.self.keys c.args.self.now.numbers.items _ c.in_ok-number.ensures.keys c.in_ok-number.ensures.stored c.insert_full.ensures.unique refl
