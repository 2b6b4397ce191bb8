use Rattle.std.proofs.Common.{◌+◌, ◌-◌, ◌∷◌, ◌∙◌, [], map, refl, sym, ap, subst, arith}
use Rattle.tib_expand.specs.Expanded.{ListsEdges, EdgesExceed, HasEnds, IsEndAt}
use Rattle.tib_hunt.specs.Held.{IsWithinRound}
use Rattle.tib_hunt.specs.Rows.{numbered}
use Rattle.tib_expand.proofs.Reaching.{IfTooMany-weaker, hunt_of}
use Rattle.tib_hunt.proofs.Settling.{map_both}
use Rattle.tib_hunt.proofs.Advancing.{few_keys, keys_counted, too_many_edges, too_many_ends, expanded, end_admitted, slice_is}
use Rattle.tib_hunt.proofs.listed_round.expand_few.Goals as goal

pub overflow_cast-n-end : goal.overflow_cast-n-end
overflow_cast-n-end g c =
    let few = few_keys (hunt_of (g.met.E.Expand.lawful c.args.terms.now.problem.now) g.met.E.Key.Ord.total g.met.E.Key.TableKey.same g.met.E.Key.Eq.laws.refl) c.requires.between.held in
    let l = c.requires.limit in
    let n = c.len-bound.ensures.len in
    omega arith

pub returns-in-Err-More-clause-more : goal.returns-in-Err-More-clause-more
returns-in-Err-More-clause-more g c = (
  refl,
  too_many_edges (hunt_of (g.met.E.Expand.lawful c.args.terms.now.problem.now) g.met.E.Key.Ord.total g.met.E.Key.TableKey.same g.met.E.Key.Eq.laws.refl) c.args.state.now.keys.keys c.loop-n.state.keys.keys c.args.first c.loop-n.n c.loop-n.state.rules.items (map numbered c.loop-n.state.rows.items) c.loop-n.state.parts c.args.terms.now.limit c.loop-n.invariant (let a = c.loop-n-test.true in let b = c.len-bound.ensures.len in omega arith)
      (subst (λ o. EdgesExceed (g.E.Expand.hunted c.args.terms.now.problem.now) o c.loop-n.n (c.args.terms.now.limit - c.loop-n.state.parts)) (slice_is c.args.state.now.keys.keys c.loop-n.state.keys.keys c.loop-n.invariant.held.fresh c.as_slice.result.now c.len-bound.result c.loop-n.invariant.held.keys_are c.as_slice.ensures.keys c.len-bound.ensures.len) (c.in-Err-More.ensures.more c.in-Err-More.field-0-is)),
)

pub returns-in-Err-clause-more : goal.returns-in-Err-clause-more
returns-in-Err-clause-more g c = IfTooMany-weaker c.args.terms.now.limit _ _ c.in-Err.error (too_many_ends (hunt_of (g.met.E.Expand.lawful c.args.terms.now.problem.now) g.met.E.Key.Ord.total g.met.E.Key.TableKey.same g.met.E.Key.Eq.laws.refl) c.args.state.now.keys.keys c.loop-n.state.keys.keys c.args.first c.loop-n.n c.loop-n.state.rules.items (map numbered c.loop-n.state.rows.items) c.loop-n.state.parts c.args.terms.now.limit c.loop-n.invariant (let a = c.loop-n-test.true in let b = c.len-bound.ensures.len in omega arith)
    c.in-Ok.edges.ends.items c.in-Ok.edges.rules.items c.in-Ok.edges.parts
    (subst (λ o. ListsEdges (g.E.Expand.hunted c.args.terms.now.problem.now) g.E.Expand.reading o c.loop-n.n c.in-Ok.edges) (slice_is c.args.state.now.keys.keys c.loop-n.state.keys.keys c.loop-n.invariant.held.fresh c.as_slice.result.now c.len-bound.result c.loop-n.invariant.held.keys_are c.as_slice.ensures.keys c.len-bound.ensures.len) c.in-Ok.ensures.listed)
    (subst (λ o. HasEnds (IsEndAt (g.E.Expand.hunted c.args.terms.now.problem.now) o c.loop-n.n) c.in-Ok.edges) (slice_is c.args.state.now.keys.keys c.loop-n.state.keys.keys c.loop-n.invariant.held.fresh c.as_slice.result.now c.len-bound.result c.loop-n.invariant.held.keys_are c.as_slice.ensures.keys c.len-bound.ensures.len) c.in-Ok.ensures.ends)
    c.in-Ok.ensures.within) c.in-Err.ensures.more

pub loop-n-preserved : goal.loop-n-preserved
loop-n-preserved g c =
    let r = c.in-Ok-add_edges.ensures.row in
    subst (λ rules. IsWithinRound (g.E.Expand.hunted c.args.terms.now.problem.now) (g.E.Expand.admits c.args.terms.now.problem.now) g.E.Expand.reading c.args.state.now.keys.keys c.args.first (c.loop-n.n + 1) c.add_edges.new.self.keys.keys rules.items (map numbered c.add_edges.new.self.rows.items) c.add_edges.new.self.parts c.args.terms.now.limit) (sym c.in-Ok-add_edges.ensures.rules)
    (subst (λ rows. IsWithinRound (g.E.Expand.hunted c.args.terms.now.problem.now) (g.E.Expand.admits c.args.terms.now.problem.now) g.E.Expand.reading c.args.state.now.keys.keys c.args.first (c.loop-n.n + 1) c.add_edges.new.self.keys.keys c.loop-n.state.rules.items rows c.add_edges.new.self.parts c.args.terms.now.limit) (sym (ap (map numbered) r.1 ∙ map_both numbered c.loop-n.state.rows.items (r.0 ∷ [])))
    (expanded (hunt_of (g.met.E.Expand.lawful c.args.terms.now.problem.now) g.met.E.Key.Ord.total g.met.E.Key.TableKey.same g.met.E.Key.Eq.laws.refl) c.args.state.now.keys.keys c.loop-n.state.keys.keys c.args.first c.loop-n.n c.loop-n.state.rules.items (map numbered c.loop-n.state.rows.items) c.loop-n.state.parts c.args.terms.now.limit c.loop-n.invariant (let a = c.loop-n-test.true in let b = c.len-bound.ensures.len in omega arith)
    c.in-Ok.edges.ends.items c.in-Ok.edges.rules.items c.in-Ok.edges.parts
    (subst (λ o. ListsEdges (g.E.Expand.hunted c.args.terms.now.problem.now) g.E.Expand.reading o c.loop-n.n c.in-Ok.edges) (slice_is c.args.state.now.keys.keys c.loop-n.state.keys.keys c.loop-n.invariant.held.fresh c.as_slice.result.now c.len-bound.result c.loop-n.invariant.held.keys_are c.as_slice.ensures.keys c.len-bound.ensures.len) c.in-Ok.ensures.listed)
    (subst (λ o. HasEnds (IsEndAt (g.E.Expand.hunted c.args.terms.now.problem.now) o c.loop-n.n) c.in-Ok.edges) (slice_is c.args.state.now.keys.keys c.loop-n.state.keys.keys c.loop-n.invariant.held.fresh c.as_slice.result.now c.len-bound.result c.loop-n.invariant.held.keys_are c.as_slice.ensures.keys c.len-bound.ensures.len) c.in-Ok.ensures.ends)
    (end_admitted ((g.E.Expand.hunted c.args.terms.now.problem.now).edge c.args.state.now.keys.keys c.loop-n.n) (g.E.Expand.hunted c.args.terms.now.problem.now).ends_of (g.E.Expand.admits c.args.terms.now.problem.now) (λ o e k is h. (g.met.E.Expand.lawful c.args.terms.now.problem.now).ends_admitted c.args.state.now.keys.keys c.loop-n.n o e k c.requires.between.held.admitted (let a = c.loop-n-test.true in let b = c.len-bound.ensures.len in omega arith) is h))
    (numbered r.0) r.2 c.add_edges.new.self.keys.keys c.in-Ok-add_edges.ensures.keys r.3 c.add_edges.new.self.parts c.in-Ok-add_edges.ensures.parts c.in-Ok-add_edges.ensures.within))

pub add_edges-requires-clause-counted : goal.add_edges-requires-clause-counted
add_edges-requires-clause-counted g c = keys_counted (hunt_of (g.met.E.Expand.lawful c.args.terms.now.problem.now) g.met.E.Key.Ord.total g.met.E.Key.TableKey.same g.met.E.Key.Eq.laws.refl) c.loop-n.invariant.held
