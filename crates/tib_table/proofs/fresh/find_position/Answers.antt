use Rattle.tib_table.proofs.FreshKeys.{found_at, not_found}
use Rattle.tib_table.proofs.fresh.find_position.Goals as goal

pub returns-clause-some : goal.returns-clause-some
returns-clause-some g c = found_at g.K.PartialEq.eq g.met.K.TableKey.same g.met.K.Eq.laws.refl c.args.keys.now.keys c.args.key.now c.get_index_of.result c.get_index_of.ensures.index c.get_index_of.ensures.found

pub returns-clause-none : goal.returns-clause-none
returns-clause-none g c = not_found g.K.PartialEq.eq g.met.K.TableKey.same g.met.K.Eq.laws.refl c.args.keys.now.keys c.args.key.now c.get_index_of.result c.get_index_of.ensures.found
