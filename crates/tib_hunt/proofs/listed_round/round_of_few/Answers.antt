use Rattle.std.proofs.Common.{map, arith}
use Rattle.tib_hunt.specs.Rows.{numbered}
use Rattle.tib_expand.proofs.Reaching.{hunt_of}
use Rattle.tib_hunt.proofs.Advancing.{few_keys}
use Rattle.tib_hunt.proofs.Finding.{round_ends_at}
use Rattle.tib_hunt.proofs.Outcomes.{appended_few}
use Rattle.tib_hunt.proofs.listed_round.round_of_few.Goals as goal

pub overflow_cast-order : goal.overflow_cast-order
overflow_cast-order g c =
    let few = few_keys (hunt_of (g.met.E.Expand.lawful c.args.terms.now.problem.now) g.met.E.Key.Ord.total g.met.E.Key.TableKey.same g.met.E.Key.Eq.laws.refl) c.requires.between.held in
    let l = c.requires.limit in
    let n = c.len-order.ensures.len in
    omega arith

pub settle-requires-clause-few : goal.settle-requires-clause-few
settle-requires-clause-few g c =
    let few = few_keys (hunt_of (g.met.E.Expand.lawful c.args.terms.now.problem.now) g.met.E.Key.Ord.total g.met.E.Key.TableKey.same g.met.E.Key.Eq.laws.refl) c.in-Ok.ensures.within.held in
    let l = c.requires.limit in
    omega arith

pub returns-clause-between : goal.returns-clause-between
returns-clause-between g c = round_ends_at (hunt_of (g.met.E.Expand.lawful c.args.terms.now.problem.now) g.met.E.Key.Ord.total g.met.E.Key.TableKey.same g.met.E.Key.Eq.laws.refl) c.args.state.now.keys.keys c.expand_few.new.state.keys.keys c.args.first c.expand_few.new.state.rules.items (map numbered c.expand_few.new.state.rows.items) c.expand_few.new.state.parts c.args.terms.now.limit c.in-Ok.ensures.within
    c.settle.new.self.keys.keys c.settle.new.self.rules.items c.settle.new.self.parts c.len-order.result c.len-order.ensures.len c.in-Ok-settle.ensures.parts c.in-Ok-settle.ensures.settled

pub returns-clause-run : goal.returns-clause-run
returns-clause-run g c =
    let s = c.in-Ok-settle.ensures.settled in
    appended_few (hunt_of (g.met.E.Expand.lawful c.args.terms.now.problem.now) g.met.E.Key.Ord.total g.met.E.Key.TableKey.same g.met.E.Key.Eq.laws.refl) g.E.Key.TableKey.shelf_of (λ x. g.met.E.Key.TableKey.low x) c.args.state.now.keys.keys c.expand_few.new.state.keys.keys c.args.first c.expand_few.new.state.rules.items (map numbered c.expand_few.new.state.rows.items) c.expand_few.new.state.parts c.args.terms.now.limit c.in-Ok.ensures.within
    c.settle.new.self.keys.keys c.len-order.result c.len-order.ensures.len s.0 s.1
