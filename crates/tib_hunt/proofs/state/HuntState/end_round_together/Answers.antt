use Rattle.std.proofs.Common.{◌++◌, ◌<◌, length, map, sym, subst, arith}
use Rattle.tib_lex.specs.Lists.{Each, Distinct}
use Rattle.tib_hunt.specs.Numbered.{keys_of}
use Rattle.tib_hunt.specs.Rows.{IsRowBelow}
use Rattle.tib_hunt.specs.Shelved.{placed_row}
use Rattle.tib_expand.proofs.Reaching.{hunt_of}
use Rattle.tib_hunt.proofs.Advancing.{few_keys}
use Rattle.tib_hunt.proofs.Finding.{fresh_round_ends}
use Rattle.tib_hunt.proofs.Outcomes.{appended_fresh}
use Rattle.tib_hunt.proofs.state.HuntState.end_round_together.Goals as goal

pub take_round-requires-clause-lacked : goal.take_round-requires-clause-lacked
take_round-requires-clause-lacked g c e = c.requires.apart

pub settle_together-requires-clause-few : goal.settle_together-requires-clause-few
settle_together-requires-clause-few g c κs within =
    let few = few_keys (hunt_of ((g.met.E.Expand g.world.𝓛 g.world.𝓜 g.world.𝓡 ((λ s x. x), (λ x. x), (λ x. x), λ x. x)).lawful c.args.terms.now.problem.now) (g.met.E.Key.Ord g.world.𝓛 g.world.𝓜 g.world.𝓡 ((λ s x. x), (λ x. x), (λ x. x), λ x. x)).total (g.met.E.Key.TableKey g.world.𝓛 g.world.𝓜 g.world.𝓡 ((λ s x. x), (λ x. x), (λ x. x), λ x. x)).same (g.met.E.Key.Eq g.world.𝓛 g.world.𝓜 g.world.𝓡 ((λ s x. x), (λ x. x), (λ x. x), λ x. x)).laws.refl) c.in-Ok.ensures.within.held in
    let l = c.requires.limit in
    subst (λ o. length (o ++ keys_of c.in-Ok.taken.fresh.items) < 4294967296) (sym c.in-Ok.ensures.order) (omega arith)

pub settle_together-requires-clause-distinct : goal.settle_together-requires-clause-distinct
settle_together-requires-clause-distinct g c κs within = subst (λ o. Distinct (o ++ keys_of c.in-Ok.taken.fresh.items)) (sym c.in-Ok.ensures.order) c.in-Ok.ensures.within.held.once

pub settle_together-requires-clause-below : goal.settle_together-requires-clause-below
settle_together-requires-clause-below g c κs within = subst (λ o. Each (IsRowBelow g.E.Expand.reading.places (length o) (length (o ++ keys_of c.in-Ok.taken.fresh.items))) (map (placed_row (map (λ v. v.items) c.in-Ok.taken.positions.items)) c.in-Ok.taken.rows.items)) (sym c.in-Ok.ensures.order) c.in-Ok.ensures.within.held.rows_below

pub returns-clause-between : goal.returns-clause-between
returns-clause-between g c = fresh_round_ends (hunt_of ((g.met.E.Expand g.world.𝓛 g.world.𝓜 g.world.𝓡 ((λ s x. x), (λ x. x), (λ x. x), λ x. x)).lawful c.args.terms.now.problem.now) (g.met.E.Key.Ord g.world.𝓛 g.world.𝓜 g.world.𝓡 ((λ s x. x), (λ x. x), (λ x. x), λ x. x)).total (g.met.E.Key.TableKey g.world.𝓛 g.world.𝓜 g.world.𝓡 ((λ s x. x), (λ x. x), (λ x. x), λ x. x)).same (g.met.E.Key.Eq g.world.𝓛 g.world.𝓜 g.world.𝓡 ((λ s x. x), (λ x. x), (λ x. x), λ x. x)).laws.refl) c.args.self.now.keys.keys (keys_of c.in-Ok.taken.fresh.items) c.args.first c.take_round.new.self.rules.items (map (placed_row (map (λ v. v.items) c.in-Ok.taken.positions.items)) c.in-Ok.taken.rows.items) c.take_round.new.self.parts c.args.terms.now.limit c.in-Ok.ensures.within
    c.take_round.new.self.keys.keys c.settle_together.new.self.keys.keys c.settle_together.new.self.rules.items c.settle_together.new.self.parts c.in-Ok.ensures.order c.in-Ok-settle_together.ensures.parts c.in-Ok-settle_together.ensures.settled

pub returns-clause-run : goal.returns-clause-run
returns-clause-run g c =
    let s = c.in-Ok-settle_together.ensures.settled in
    appended_fresh (hunt_of ((g.met.E.Expand g.world.𝓛 g.world.𝓜 g.world.𝓡 ((λ s x. x), (λ x. x), (λ x. x), λ x. x)).lawful c.args.terms.now.problem.now) (g.met.E.Key.Ord g.world.𝓛 g.world.𝓜 g.world.𝓡 ((λ s x. x), (λ x. x), (λ x. x), λ x. x)).total (g.met.E.Key.TableKey g.world.𝓛 g.world.𝓜 g.world.𝓡 ((λ s x. x), (λ x. x), (λ x. x), λ x. x)).same (g.met.E.Key.Eq g.world.𝓛 g.world.𝓜 g.world.𝓡 ((λ s x. x), (λ x. x), (λ x. x), λ x. x)).laws.refl) g.E.Key.TableKey.shelf_of (λ x. (g.met.E.Key.TableKey g.world.𝓛 g.world.𝓜 g.world.𝓡 ((λ s x. x), (λ x. x), (λ x. x), λ x. x)).low x) c.args.self.now.keys.keys (keys_of c.in-Ok.taken.fresh.items) c.args.first c.take_round.new.self.rules.items (map (placed_row (map (λ v. v.items) c.in-Ok.taken.positions.items)) c.in-Ok.taken.rows.items) c.take_round.new.self.parts c.args.terms.now.limit c.in-Ok.ensures.within
    c.take_round.new.self.keys.keys c.settle_together.new.self.keys.keys c.in-Ok.ensures.order s.0 s.1
