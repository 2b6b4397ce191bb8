use Rattle.std.proofs.Common.{◌++◌, length, map, sym, subst}
use Rattle.tib_lex.specs.Lists.{Each}
use Rattle.tib_hunt.specs.Numbered.{keys_of}
use Rattle.tib_hunt.specs.Held.{IsWithinRound}
use Rattle.tib_hunt.specs.Known.{AreOn}
use Rattle.tib_hunt.specs.Shelved.{placed_row}
use Rattle.tib_expand.proofs.Reaching.{hunt_of}
use Rattle.tib_hunt.proofs.Advancing.{end_admitted}
use Rattle.tib_hunt.proofs.Underway.{all_somewhere}
use Rattle.tib_hunt.proofs.Taken.{all_placed, once_there, enough_there, told_new, within_round}
use Rattle.tib_hunt.proofs.state.HuntState.take_round.Goals as goal

pub take_in-requires-clause-counted : goal.take_in-requires-clause-counted
take_in-requires-clause-counted g c = enough_there (hunt_of (g.met.E.Expand.lawful c.args.problem.now) g.met.E.Key.Ord.total g.met.E.Key.TableKey.same g.met.E.Key.Eq.laws.refl) g.E.Key.TableKey.shelf_of (λ x. g.met.E.Key.TableKey.low x) c.args.self.now.keys.keys c.args.first c.args.self.now.rules.items c.args.self.now.parts c.args.limit c.requires.between (map (λ v. v.items) c.args.worked.shelves.items) c.args.worked.rows.items c.args.worked.parts c.requires.worked

pub take_in-requires-clause-lacked : goal.take_in-requires-clause-lacked
take_in-requires-clause-lacked g c lacked k h = let r = all_somewhere (map (λ v. v.items) c.args.worked.shelves.items) k h in c.requires.lacked lacked r.0 k r.1

pub take_in-requires-clause-once : goal.take_in-requires-clause-once
take_in-requires-clause-once g c = once_there (hunt_of (g.met.E.Expand.lawful c.args.problem.now) g.met.E.Key.Ord.total g.met.E.Key.TableKey.same g.met.E.Key.Eq.laws.refl) g.E.Key.TableKey.shelf_of (λ x. g.met.E.Key.TableKey.low x) c.args.self.now.keys.keys c.args.first c.args.self.now.rules.items c.args.self.now.parts c.args.limit c.requires.between (map (λ v. v.items) c.args.worked.shelves.items) c.args.worked.rows.items c.args.worked.parts c.requires.worked

pub returns-in-Ok-clause-on : goal.returns-in-Ok-clause-on
returns-in-Ok-clause-on g c = subst (λ rows. Each (λ row. AreOn (map (λ v. v.items) c.in-Ok.taken.positions.items) row.rules.at row.ends.items) rows.items) (sym c.in-Ok.ensures.rows)
    (all_placed (hunt_of (g.met.E.Expand.lawful c.args.problem.now) g.met.E.Key.Ord.total g.met.E.Key.TableKey.same g.met.E.Key.Eq.laws.refl) g.E.Key.TableKey.shelf_of (λ x. g.met.E.Key.TableKey.low x) c.args.self.now.keys.keys c.args.first c.args.self.now.rules.items c.args.self.now.parts c.args.limit c.requires.between (map (λ v. v.items) c.args.worked.shelves.items) c.args.worked.rows.items c.args.worked.parts c.requires.worked
    (c.args.self.now.keys.keys ++ keys_of c.in-Ok.taken.fresh.items) c.in-Ok.ensures.keys (map (λ v. v.items) c.in-Ok.taken.positions.items) c.in-Ok.ensures.positions)

pub returns-in-Ok-clause-within : goal.returns-in-Ok-clause-within
returns-in-Ok-clause-within g c =
    subst (λ rules. IsWithinRound (g.E.Expand.hunted c.args.problem.now) (g.E.Expand.admits c.args.problem.now) g.E.Expand.reading c.args.self.now.keys.keys c.args.first (length c.args.self.now.keys.keys) (c.args.self.now.keys.keys ++ keys_of c.in-Ok.taken.fresh.items) rules.items (map (placed_row (map (λ v. v.items) c.in-Ok.taken.positions.items)) c.in-Ok.taken.rows.items) c.take_in.new.self.parts c.args.limit) (sym c.in-Ok.ensures.rules)
    (subst (λ rows. IsWithinRound (g.E.Expand.hunted c.args.problem.now) (g.E.Expand.admits c.args.problem.now) g.E.Expand.reading c.args.self.now.keys.keys c.args.first (length c.args.self.now.keys.keys) (c.args.self.now.keys.keys ++ keys_of c.in-Ok.taken.fresh.items) c.args.self.now.rules.items (map (placed_row (map (λ v. v.items) c.in-Ok.taken.positions.items)) rows.items) c.take_in.new.self.parts c.args.limit) (sym c.in-Ok.ensures.rows)
    (within_round (hunt_of (g.met.E.Expand.lawful c.args.problem.now) g.met.E.Key.Ord.total g.met.E.Key.TableKey.same g.met.E.Key.Eq.laws.refl) g.E.Key.TableKey.shelf_of (λ x. g.met.E.Key.TableKey.low x) c.args.self.now.keys.keys c.args.first c.args.self.now.rules.items c.args.self.now.parts c.args.limit c.requires.between (map (λ v. v.items) c.args.worked.shelves.items) c.args.worked.rows.items c.args.worked.parts c.requires.worked
    (λ i k below e. end_admitted ((g.E.Expand.hunted c.args.problem.now).edge c.args.self.now.keys.keys i) (g.E.Expand.hunted c.args.problem.now).ends_of (g.E.Expand.admits c.args.problem.now) (λ o e k is h. (g.met.E.Expand.lawful c.args.problem.now).ends_admitted c.args.self.now.keys.keys i o e k c.requires.between.held.admitted below is h) k e)
    (c.args.self.now.keys.keys ++ keys_of c.in-Ok.taken.fresh.items) c.in-Ok.ensures.keys (map (λ v. v.items) c.in-Ok.taken.positions.items) c.in-Ok.ensures.positions c.take_in.new.self.parts c.in-Ok.ensures.parts c.in-Ok.ensures.within))

pub returns-in-Err-clause-more : goal.returns-in-Err-clause-more
returns-in-Err-clause-more g c = told_new (hunt_of (g.met.E.Expand.lawful c.args.problem.now) g.met.E.Key.Ord.total g.met.E.Key.TableKey.same g.met.E.Key.Eq.laws.refl) g.E.Key.TableKey.shelf_of (λ x. g.met.E.Key.TableKey.low x) c.args.self.now.keys.keys c.args.first c.args.self.now.rules.items c.args.self.now.parts c.args.limit c.requires.between (map (λ v. v.items) c.args.worked.shelves.items) c.args.worked.rows.items c.args.worked.parts c.requires.worked c.in-Err.error c.in-Err.ensures.more
