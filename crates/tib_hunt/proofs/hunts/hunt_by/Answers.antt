use Rattle.std.proofs.Common.{rules, ◌≡◌, ◌∙◌, ◌≤◌, ◌<◌, [], length, take, refl, sym, subst, arith}
use Rattle.tib_lex.specs.Lists.{Each}
use Rattle.tib_hunt.specs.Held.{IsBetween}
use Rattle.tib_expand.proofs.Reaching.{hunt_of}
use Rattle.tib_table.proofs.Sights.{take_front}
use Rattle.tib_hunt.proofs.Advancing.{few_keys, slice_is}
use Rattle.tib_hunt.proofs.hunts.hunt_by.Goals as goal

pub overflow_cast-next : goal.overflow_cast-next
overflow_cast-next g c =
    let few = few_keys (hunt_of (g.met.E.Expand.lawful c.args.problem.now) g.met.E.Key.Ord.total g.met.E.Key.TableKey.same g.met.E.Key.Eq.laws.refl) c.loop-first.invariant.between.held in
    let l = c.requires.limit in
    let n = c.len-next.ensures.len in
    omega arith

pub loop-first-smaller : goal.loop-first-smaller
loop-first-smaller g c =
    let few = few_keys (hunt_of (g.met.E.Expand.lawful c.args.problem.now) g.met.E.Key.Ord.total g.met.E.Key.TableKey.same g.met.E.Key.Eq.laws.refl) c.loop-first.invariant.between.held in
    let l = c.requires.limit in
    let n = c.len-next.ensures.len in
    let m = c.len.ensures.len in
    let t = c.loop-first-test.true in
    omega arith

pub found_in-requires : goal.found_in-requires
found_in-requires g c =
    let m = c.len.ensures.len in
    let t = c.loop-first-test.false in
    let low = c.loop-first.invariant.between.low in
    let all : c.loop-first.first ≡ length c.loop-first.state.keys.keys = omega arith in
    record { between = (c.args.limit, subst (λ n. IsBetween (g.E.Expand.hunted c.args.problem.now) (g.E.Expand.admits c.args.problem.now) g.E.Expand.reading n c.loop-first.state.keys.keys c.loop-first.state.rules.items c.loop-first.state.parts c.args.limit) all c.loop-first.invariant.between) }

pub returns-clause-within : goal.returns-clause-within
returns-clause-within g c =
    let t = c.in-Ok-found_in.ensures.total in
    let w = c.loop-first.invariant.between.held.within in
    omega arith

pub loop-first-init : goal.loop-first-init
loop-first-init g c =
    let between = c.in-Ok.ensures.between in
    let indexed = subst (λ o. g.E.Expand.indexes c.args.problem.now o c.in-Ok-begin_index.index) (sym (take_front [] c.in-Ok.state.keys.keys 0 refl)) c.in-Ok-begin_index.ensures in
    search (rules, between, indexed)

pub extend_index-requires : goal.extend_index-requires
extend_index-requires g c =
    let same = c.as_slice-order.ensures.keys in
    let low = c.loop-first.invariant.between.low in
    let few = few_keys (hunt_of (g.met.E.Expand.lawful c.args.problem.now) g.met.E.Key.Ord.total g.met.E.Key.TableKey.same g.met.E.Key.Eq.laws.refl) c.loop-first.invariant.between.held in
    let l = c.requires.limit in
    record {
      from = subst (λ o. c.loop-first.first ≤ length o) (sym same) low;
      few = subst (λ o. length o < 4294967296) (sym same) (omega arith);
      admitted = subst (Each (g.E.Expand.admits c.args.problem.now)) (sym same) c.loop-first.invariant.between.held.admitted;
      index = subst (λ o. g.E.Expand.indexes c.args.problem.now (take c.loop-first.first o) c.loop-first.index) (sym same) c.loop-first.invariant.indexed;
    }

pub loop-first-preserved : goal.loop-first-preserved
loop-first-preserved g c =
    let run = c.in-Ok-round_alone.ensures.run in
    let front = slice_is c.loop-first.state.keys.keys c.round_alone.new.state.keys.keys run.0 c.round_alone.new.state.keys.keys c.len-next.result run.2 refl c.len-next.ensures.len in
    let indexed = subst (λ o. g.E.Expand.indexes c.args.problem.now o c.extend_index.new.index) (c.as_slice-order.ensures.keys ∙ sym front) c.in-Ok-extend_index.ensures in
    search (rules, indexed)
