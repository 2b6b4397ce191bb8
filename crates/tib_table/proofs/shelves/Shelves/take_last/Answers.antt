use Rattle.std.proofs.Common.{arith}
use Rattle.tib_table.proofs.Taking.{taken_from, others_stay}
use Rattle.tib_table.proofs.shelves.Shelves.take_last.Goals as goal

pub returns-clause-taken : goal.returns-clause-taken
returns-clause-taken g c = taken_from c.self.inside.shelves.items c.args.shelf c.index_mut.result.now c.take_last.new.self c.args.self.now c.index_mut.ensures.value (let l = c.requires in let m = c.self.invariant in omega arith) c.self.view_is c.take_last.result c.take_last.ensures.taken

pub returns-clause-others : goal.returns-clause-others
returns-clause-others g c = others_stay c.self.inside.shelves.items c.args.shelf c.index_mut.result.now c.take_last.new.self c.args.self.now c.index_mut.ensures.value (let l = c.requires in let m = c.self.invariant in omega arith) c.self.view_is
