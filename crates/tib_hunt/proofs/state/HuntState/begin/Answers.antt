use Rattle.std.proofs.Common.{◌∙◌, ◌++◌, ◌+◌, [], ◌∷◌, map, refl, ap, subst, arith}
use Rattle.tib_hunt.specs.Numbered.{HaveMore}
use Rattle.tib_expand.specs.Keys.{key_parts}
use Rattle.tib_hunt.specs.Rows.{numbered}
use Rattle.tib_expand.proofs.Reaching.{IfTooMany-weaker, hunt_of}
use Rattle.tib_hunt.proofs.Advancing.{few_keys, seeds_exceed, too_many_seeds}
use Rattle.tib_hunt.proofs.Finding.{begun, begins_at, no_keys}
use Rattle.tib_hunt.proofs.state.HuntState.begin.Goals as goal

pub returns-in-Err-More-clause-more : goal.returns-in-Err-More-clause-more
returns-in-Err-More-clause-more g c = (refl, seeds_exceed (hunt_of (g.met.E.Expand.lawful c.args.problem.now) g.met.E.Key.Ord.total g.met.E.Key.TableKey.same g.met.E.Key.Eq.laws.refl) c.args.limit (c.in-Err-More.ensures.more c.in-Err-More.field-0-is))

pub returns-in-Err-clause-more : goal.returns-in-Err-clause-more
returns-in-Err-clause-more g c = IfTooMany-weaker c.args.limit _ _ c.in-Err.error
    (λ h. too_many_seeds (hunt_of (g.met.E.Expand.lawful c.args.problem.now) g.met.E.Key.Ord.total g.met.E.Key.TableKey.same g.met.E.Key.Eq.laws.refl) c.args.limit c.in-Ok.edges.ends.items c.in-Ok.edges.rules.items c.in-Ok.edges.parts c.in-Ok.ensures.listed c.in-Ok.ensures.ends c.in-Ok.ensures.within
    (subst (λ l. HaveMore g.E.Key.PartialEq.eq (key_parts g.E.Key.TableKey.entries_of) l c.in-Ok.edges.ends.items (0 + c.in-Ok.edges.parts) c.args.limit) (no_keys (hunt_of (g.met.E.Expand.lawful c.args.problem.now) g.met.E.Key.Ord.total g.met.E.Key.TableKey.same g.met.E.Key.Eq.laws.refl) c.new.result.keys c.new.ensures.len) h)) c.in-Err.ensures.more

pub settle-requires-clause-few : goal.settle-requires-clause-few
settle-requires-clause-few g c =
    let h = begun (hunt_of (g.met.E.Expand.lawful c.args.problem.now) g.met.E.Key.Ord.total g.met.E.Key.TableKey.same g.met.E.Key.Eq.laws.refl) c.args.limit c.in-Ok.edges.ends.items c.in-Ok.edges.rules.items c.in-Ok.edges.parts c.in-Ok.ensures.listed c.in-Ok.ensures.ends c.new.result.keys (no_keys (hunt_of (g.met.E.Expand.lawful c.args.problem.now) g.met.E.Key.Ord.total g.met.E.Key.TableKey.same g.met.E.Key.Eq.laws.refl) c.new.result.keys c.new.ensures.len) (numbered c.in-Ok-add_edges.ensures.row.0) (map numbered c.add_edges.new.self.rows.items) (ap (map numbered) (c.in-Ok-add_edges.ensures.row.1 ∙ ap (λ l. l ++ c.in-Ok-add_edges.ensures.row.0 ∷ []) c.new-3.ensures.items)) c.in-Ok-add_edges.ensures.row.2 c.add_edges.new.self.keys.keys c.in-Ok-add_edges.ensures.keys c.in-Ok-add_edges.ensures.row.3 c.add_edges.new.self.parts c.in-Ok-add_edges.ensures.parts c.in-Ok-add_edges.ensures.within in
    let few = few_keys (hunt_of (g.met.E.Expand.lawful c.args.problem.now) g.met.E.Key.Ord.total g.met.E.Key.TableKey.same g.met.E.Key.Eq.laws.refl) h in
    let l = c.requires.limit in
    omega arith

pub settle-requires-clause-distinct : goal.settle-requires-clause-distinct
settle-requires-clause-distinct g c = (begun (hunt_of (g.met.E.Expand.lawful c.args.problem.now) g.met.E.Key.Ord.total g.met.E.Key.TableKey.same g.met.E.Key.Eq.laws.refl) c.args.limit c.in-Ok.edges.ends.items c.in-Ok.edges.rules.items c.in-Ok.edges.parts c.in-Ok.ensures.listed c.in-Ok.ensures.ends c.new.result.keys (no_keys (hunt_of (g.met.E.Expand.lawful c.args.problem.now) g.met.E.Key.Ord.total g.met.E.Key.TableKey.same g.met.E.Key.Eq.laws.refl) c.new.result.keys c.new.ensures.len) (numbered c.in-Ok-add_edges.ensures.row.0) (map numbered c.add_edges.new.self.rows.items) (ap (map numbered) (c.in-Ok-add_edges.ensures.row.1 ∙ ap (λ l. l ++ c.in-Ok-add_edges.ensures.row.0 ∷ []) c.new-3.ensures.items)) c.in-Ok-add_edges.ensures.row.2 c.add_edges.new.self.keys.keys c.in-Ok-add_edges.ensures.keys c.in-Ok-add_edges.ensures.row.3 c.add_edges.new.self.parts c.in-Ok-add_edges.ensures.parts c.in-Ok-add_edges.ensures.within).once

pub settle-requires-clause-below : goal.settle-requires-clause-below
settle-requires-clause-below g c = (begun (hunt_of (g.met.E.Expand.lawful c.args.problem.now) g.met.E.Key.Ord.total g.met.E.Key.TableKey.same g.met.E.Key.Eq.laws.refl) c.args.limit c.in-Ok.edges.ends.items c.in-Ok.edges.rules.items c.in-Ok.edges.parts c.in-Ok.ensures.listed c.in-Ok.ensures.ends c.new.result.keys (no_keys (hunt_of (g.met.E.Expand.lawful c.args.problem.now) g.met.E.Key.Ord.total g.met.E.Key.TableKey.same g.met.E.Key.Eq.laws.refl) c.new.result.keys c.new.ensures.len) (numbered c.in-Ok-add_edges.ensures.row.0) (map numbered c.add_edges.new.self.rows.items) (ap (map numbered) (c.in-Ok-add_edges.ensures.row.1 ∙ ap (λ l. l ++ c.in-Ok-add_edges.ensures.row.0 ∷ []) c.new-3.ensures.items)) c.in-Ok-add_edges.ensures.row.2 c.add_edges.new.self.keys.keys c.in-Ok-add_edges.ensures.keys c.in-Ok-add_edges.ensures.row.3 c.add_edges.new.self.parts c.in-Ok-add_edges.ensures.parts c.in-Ok-add_edges.ensures.within).rows_below

pub returns-clause-between : goal.returns-clause-between
returns-clause-between g c = (begins_at (hunt_of (g.met.E.Expand.lawful c.args.problem.now) g.met.E.Key.Ord.total g.met.E.Key.TableKey.same g.met.E.Key.Eq.laws.refl) c.args.limit c.in-Ok.edges.ends.items c.in-Ok.edges.rules.items c.in-Ok.edges.parts c.in-Ok.ensures.listed c.in-Ok.ensures.ends c.new.result.keys (no_keys (hunt_of (g.met.E.Expand.lawful c.args.problem.now) g.met.E.Key.Ord.total g.met.E.Key.TableKey.same g.met.E.Key.Eq.laws.refl) c.new.result.keys c.new.ensures.len) (numbered c.in-Ok-add_edges.ensures.row.0) (map numbered c.add_edges.new.self.rows.items) (ap (map numbered) (c.in-Ok-add_edges.ensures.row.1 ∙ ap (λ l. l ++ c.in-Ok-add_edges.ensures.row.0 ∷ []) c.new-3.ensures.items)) c.in-Ok-add_edges.ensures.row.2 c.add_edges.new.self.keys.keys c.in-Ok-add_edges.ensures.keys c.in-Ok-add_edges.ensures.row.3 c.add_edges.new.self.parts c.in-Ok-add_edges.ensures.parts c.in-Ok-add_edges.ensures.within c.settle.new.self.keys.keys c.add_edges.new.self.rules.items c.settle.new.self.rules.items c.settle.new.self.parts (ap (λ v. v.items) c.in-Ok-add_edges.ensures.rules ∙ c.new-2.ensures.items) c.in-Ok-settle.ensures.parts c.in-Ok-settle.ensures.settled, c.in-Ok-settle.ensures.rows)
