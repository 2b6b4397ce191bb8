use Rattle.std.proofs.Common.{length, arith}
use Rattle.tib_expand.proofs.Reaching.{hunt_of}
use Rattle.tib_hunt.proofs.Finding.{all_found, all_counted}
use Rattle.tib_hunt.proofs.hunts.found_in.Goals as goal

pub returns-clause-reached : goal.returns-clause-reached
returns-clause-reached g c = all_found (hunt_of (g.met.E.Expand.lawful c.args.problem.now) g.met.E.Key.Ord.total g.met.E.Key.TableKey.same g.met.E.Key.Eq.laws.refl) (length c.args.state.keys.keys) c.args.state.keys.keys c.args.state.rules.items c.args.state.parts c.requires.between.0 c.requires.between.1 (omega arith) c.in_ok-order.order.items c.in_ok-order.ensures

pub returns-clause-parts : goal.returns-clause-parts
returns-clause-parts g c = all_counted (hunt_of (g.met.E.Expand.lawful c.args.problem.now) g.met.E.Key.Ord.total g.met.E.Key.TableKey.same g.met.E.Key.Eq.laws.refl) (length c.args.state.keys.keys) c.args.state.keys.keys c.args.state.rules.items c.args.state.parts c.requires.between.0 c.requires.between.1 c.in_ok-order.order.items c.in_ok-order.ensures
