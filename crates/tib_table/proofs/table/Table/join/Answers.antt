use Rattle.std.proofs.Common.{arith, ◌∙◌, ℕ, [], length, refl, sym, ap, subst, append-nil, length-append, length-set}
use Rattle.tib_table.specs.Seated.{AreSeated, knowledge}
use Rattle.tib_table.proofs.Passes.{its_lock, out_of_turn}
use Rattle.tib_table.proofs.Joining.{JoinedFrom, joined_none, within_all, other_at, old_at, join_step, joined_seated, joined_known, joined_more, joined_more_too}
use Rattle.tib_table.proofs.table.Table.join.Goals as goal

pub loop-other-init : goal.loop-other-init
loop-other-init g c = (
  ([], sym (append-nil c.other.inside.passes.items)),
  joined_none (length c.other.inside.passes.items) c.seats.inside.passes.items c.other.inside.passes.items (c.seats.invariant.0 ∙ sym c.other.invariant.0) refl,
  refl,
  c.seats.invariant.0,
)

pub index_mut-requires : goal.index_mut-requires
index_mut-requires g c =
    let a = c.in-Some.ensures.len in
    let b = ap length c.loop-other.invariant.0.1 in
    let e = length-append c.loop-other.others.items c.loop-other.invariant.0.0 in
    omega (arith, c.len-at.ensures, c.loop-other.others.ok.0, c.other.invariant.0, c.loop-other.invariant.3, c.loop-other.seats-inside.passes.ok.0)

pub join-requires-clause-lock : goal.join-requires-clause-lock
join-requires-clause-lock g c =
    its_lock c.args.seats.now c.args.self.now (g.P.Problem.about c.seats.inside.problem) (g.P.Problem.about c.self.inside.problem) c.self.inside.locks.items c.seats.inside.passes.items c.self.view_is c.seats.view_is c.requires.table
    c.len-at.result c.index.result.now c.index_mut.result.now c.index_mut.result.now c.seats.invariant.1 c.seats.invariant.0 (omega (arith, within_all c.seats.inside.passes.items c.other.inside.passes.items c.loop-other.seats-inside.passes.items c.loop-other.others.items c.pop.new.self.items c.loop-other.invariant.0.0 c.in-Some.other c.index_mut.result.now c.len-at.result c.loop-other.invariant.0.1 c.in-Some.ensures.items c.loop-other.invariant.1 (omega (arith, c.len-at.ensures, c.pop.new.self.ok.0)) c.index_mut.ensures.value, c.other.invariant.0)) c.index.ensures (old_at c.seats.inside.passes.items c.other.inside.passes.items c.loop-other.seats-inside.passes.items c.loop-other.others.items c.pop.new.self.items c.loop-other.invariant.0.0 c.in-Some.other c.index_mut.result.now c.len-at.result c.loop-other.invariant.0.1 c.in-Some.ensures.items c.loop-other.invariant.1 (omega (arith, c.len-at.ensures, c.pop.new.self.ok.0)) c.index_mut.ensures.value)

pub join-requires-clause-other_lock : goal.join-requires-clause-other_lock
join-requires-clause-other_lock g c =
    its_lock c.args.other c.args.self.now (g.P.Problem.about c.other.inside.problem) (g.P.Problem.about c.self.inside.problem) c.self.inside.locks.items c.other.inside.passes.items c.self.view_is c.other.view_is c.requires.other_table
    c.len-at.result c.index.result.now c.in-Some.other c.in-Some.other c.other.invariant.1 c.other.invariant.0 (omega (arith, within_all c.seats.inside.passes.items c.other.inside.passes.items c.loop-other.seats-inside.passes.items c.loop-other.others.items c.pop.new.self.items c.loop-other.invariant.0.0 c.in-Some.other c.index_mut.result.now c.len-at.result c.loop-other.invariant.0.1 c.in-Some.ensures.items c.loop-other.invariant.1 (omega (arith, c.len-at.ensures, c.pop.new.self.ok.0)) c.index_mut.ensures.value, c.other.invariant.0)) c.index.ensures (other_at c.seats.inside.passes.items c.other.inside.passes.items c.loop-other.seats-inside.passes.items c.loop-other.others.items c.pop.new.self.items c.loop-other.invariant.0.0 c.in-Some.other c.index_mut.result.now c.len-at.result c.loop-other.invariant.0.1 c.in-Some.ensures.items c.loop-other.invariant.1 (omega (arith, c.len-at.ensures, c.pop.new.self.ok.0)) c.index_mut.ensures.value)

pub join-requires-clause-outside : goal.join-requires-clause-outside
join-requires-clause-outside g c = (
  out_of_turn c.args.seats.now c.args.self.now (g.P.Problem.about c.seats.inside.problem) (g.P.Problem.about c.self.inside.problem) c.self.inside.locks.items c.seats.inside.passes.items c.self.view_is c.seats.view_is c.requires.table
      c.len-at.result c.index.result.now c.index_mut.result.now c.index_mut.result.now c.seats.invariant.1 c.seats.invariant.0 (omega (arith, within_all c.seats.inside.passes.items c.other.inside.passes.items c.loop-other.seats-inside.passes.items c.loop-other.others.items c.pop.new.self.items c.loop-other.invariant.0.0 c.in-Some.other c.index_mut.result.now c.len-at.result c.loop-other.invariant.0.1 c.in-Some.ensures.items c.loop-other.invariant.1 (omega (arith, c.len-at.ensures, c.pop.new.self.ok.0)) c.index_mut.ensures.value, c.other.invariant.0)) c.index.ensures (old_at c.seats.inside.passes.items c.other.inside.passes.items c.loop-other.seats-inside.passes.items c.loop-other.others.items c.pop.new.self.items c.loop-other.invariant.0.0 c.in-Some.other c.index_mut.result.now c.len-at.result c.loop-other.invariant.0.1 c.in-Some.ensures.items c.loop-other.invariant.1 (omega (arith, c.len-at.ensures, c.pop.new.self.ok.0)) c.index_mut.ensures.value),
  out_of_turn c.args.other c.args.self.now (g.P.Problem.about c.other.inside.problem) (g.P.Problem.about c.self.inside.problem) c.self.inside.locks.items c.other.inside.passes.items c.self.view_is c.other.view_is c.requires.other_table
      c.len-at.result c.index.result.now c.in-Some.other c.in-Some.other c.other.invariant.1 c.other.invariant.0 (omega (arith, within_all c.seats.inside.passes.items c.other.inside.passes.items c.loop-other.seats-inside.passes.items c.loop-other.others.items c.pop.new.self.items c.loop-other.invariant.0.0 c.in-Some.other c.index_mut.result.now c.len-at.result c.loop-other.invariant.0.1 c.in-Some.ensures.items c.loop-other.invariant.1 (omega (arith, c.len-at.ensures, c.pop.new.self.ok.0)) c.index_mut.ensures.value, c.other.invariant.0)) c.index.ensures (other_at c.seats.inside.passes.items c.other.inside.passes.items c.loop-other.seats-inside.passes.items c.loop-other.others.items c.pop.new.self.items c.loop-other.invariant.0.0 c.in-Some.other c.index_mut.result.now c.len-at.result c.loop-other.invariant.0.1 c.in-Some.ensures.items c.loop-other.invariant.1 (omega (arith, c.len-at.ensures, c.pop.new.self.ok.0)) c.index_mut.ensures.value),
)

pub loop-other-preserved : goal.loop-other-preserved
loop-other-preserved g c =
    let step = join_step c.seats.inside.passes.items c.other.inside.passes.items c.loop-other.seats-inside.passes.items c.loop-other.others.items c.pop.new.self.items c.loop-other.invariant.0.0 c.in-Some.other c.index_mut.result.now c.len-at.result c.loop-other.invariant.0.1 c.in-Some.ensures.items c.loop-other.invariant.1 (omega (arith, c.len-at.ensures, c.pop.new.self.ok.0)) c.index_mut.ensures.value c.join.new.pass c.index.result.now
    (its_lock c.args.seats.now c.args.self.now (g.P.Problem.about c.seats.inside.problem) (g.P.Problem.about c.self.inside.problem) c.self.inside.locks.items c.seats.inside.passes.items c.self.view_is c.seats.view_is c.requires.table
    c.len-at.result c.index.result.now c.index_mut.result.now c.index_mut.result.now c.seats.invariant.1 c.seats.invariant.0 (omega (arith, within_all c.seats.inside.passes.items c.other.inside.passes.items c.loop-other.seats-inside.passes.items c.loop-other.others.items c.pop.new.self.items c.loop-other.invariant.0.0 c.in-Some.other c.index_mut.result.now c.len-at.result c.loop-other.invariant.0.1 c.in-Some.ensures.items c.loop-other.invariant.1 (omega (arith, c.len-at.ensures, c.pop.new.self.ok.0)) c.index_mut.ensures.value, c.other.invariant.0)) c.index.ensures (old_at c.seats.inside.passes.items c.other.inside.passes.items c.loop-other.seats-inside.passes.items c.loop-other.others.items c.pop.new.self.items c.loop-other.invariant.0.0 c.in-Some.other c.index_mut.result.now c.len-at.result c.loop-other.invariant.0.1 c.in-Some.ensures.items c.loop-other.invariant.1 (omega (arith, c.len-at.ensures, c.pop.new.self.ok.0)) c.index_mut.ensures.value))
    c.join.ensures.longer c.join.ensures.this c.join.ensures.that in
    (step.0, step.1, c.loop-other.invariant.2, length-set c.loop-other.seats-inside.passes.items c.len-at.result c.join.new.pass ∙ c.loop-other.invariant.3)

pub invariant_of-seats : goal.invariant_of-seats
invariant_of-seats g c =
    let k = joined_seated c.args.seats.now c.args.other c.args.self.now (g.P.Problem.about c.seats.inside.problem) (g.P.Problem.about c.other.inside.problem) c.seats.inside.passes.items c.other.inside.passes.items c.loop-other.seats-inside.passes.items c.seats.view_is c.other.view_is c.requires.table c.requires.other_table c.seats.invariant.0 c.seats.invariant.1 c.other.invariant.1 (subst (λ (n : ℕ). JoinedFrom n c.seats.inside.passes.items c.other.inside.passes.items c.loop-other.seats-inside.passes.items) (omega (arith, c.in_default.ensures.cases.0, c.loop-other.others.ok.0)) c.loop-other.invariant.1) in
    (k.0, subst (λ p. AreSeated (g.P.Problem.about p) 0 c.loop-other.seats-inside.passes.items) (sym c.loop-other.invariant.2) k.1)

pub returns-clause-both : goal.returns-clause-both
returns-clause-both g c =
    ap (λ p. knowledge (g.P.Problem.about p) c.loop-other.seats-inside.passes.items) c.loop-other.invariant.2
    ∙ joined_known c.args.seats.now c.args.other c.args.self.now (g.P.Problem.about c.seats.inside.problem) (g.P.Problem.about c.other.inside.problem) c.seats.inside.passes.items c.other.inside.passes.items c.loop-other.seats-inside.passes.items c.seats.view_is c.other.view_is c.requires.table c.requires.other_table c.seats.invariant.0 c.seats.invariant.1 c.other.invariant.1 (subst (λ (n : ℕ). JoinedFrom n c.seats.inside.passes.items c.other.inside.passes.items c.loop-other.seats-inside.passes.items) (omega (arith, c.in_default.ensures.cases.0, c.loop-other.others.ok.0)) c.loop-other.invariant.1)

pub returns-clause-this : goal.returns-clause-this
returns-clause-this g c = joined_more c.args.seats.now c.args.other c.args.self.now (g.P.Problem.about c.seats.inside.problem) (g.P.Problem.about c.other.inside.problem) c.seats.inside.passes.items c.other.inside.passes.items c.loop-other.seats-inside.passes.items c.seats.view_is c.other.view_is c.requires.table c.requires.other_table c.seats.invariant.0 c.seats.invariant.1 c.other.invariant.1 (subst (λ (n : ℕ). JoinedFrom n c.seats.inside.passes.items c.other.inside.passes.items c.loop-other.seats-inside.passes.items) (omega (arith, c.in_default.ensures.cases.0, c.loop-other.others.ok.0)) c.loop-other.invariant.1)

pub returns-clause-that : goal.returns-clause-that
returns-clause-that g c = joined_more_too c.args.seats.now c.args.other c.args.self.now (g.P.Problem.about c.seats.inside.problem) (g.P.Problem.about c.other.inside.problem) c.seats.inside.passes.items c.other.inside.passes.items c.loop-other.seats-inside.passes.items c.seats.view_is c.other.view_is c.requires.table c.requires.other_table c.seats.invariant.0 c.seats.invariant.1 c.other.invariant.1 (subst (λ (n : ℕ). JoinedFrom n c.seats.inside.passes.items c.other.inside.passes.items c.loop-other.seats-inside.passes.items) (omega (arith, c.in_default.ensures.cases.0, c.loop-other.others.ok.0)) c.loop-other.invariant.1)
