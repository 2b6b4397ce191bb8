use Rattle.std.proofs.Common.{◌≡◌, ◌-◌, ◌<◌, suc, arith, ◌∙◌, length}
use Rattle.std.proofs.lemmas.List.{length-set}
use Rattle.tib_apply.proofs.NumberedSides.{one_left, place_fits, pair_fits, left_less, pair_put}
use Rattle.tib_apply.proofs.placing.states_by_variable.Goals as goal

pub overflow_sub-place : goal.overflow_sub-place
overflow_sub-place c =
    one_left c.args.items.now c.args.states.now c.args.count (c.loop-i.i - 1) c.loop-i.i c.loop-i.place (omega (arith, c.loop-i-test.true)) (omega (arith, c.loop-i-test.true, c.loop-i.invariant.inside)) c.in-Hole.pair c.in-Hole.is
    c.requires.as_many c.loop-i.invariant.left

pub bounds-states-place : goal.bounds-states-place
bounds-states-place c =
    place_fits c.args.items.now c.args.states.now c.args.count (c.loop-i.i - 1) c.loop-i.i c.loop-i.place (omega (arith, c.loop-i-test.true)) (omega (arith, c.loop-i-test.true, c.loop-i.invariant.inside)) c.in-Hole.pair c.in-Hole.is
    c.requires.as_many c.loop-i.invariant.left

pub index_mut-requires : goal.index_mut-requires
index_mut-requires c =
    let fits = pair_fits c.args.items.now c.args.states.now c.args.count (c.loop-i.i - 1) c.loop-i.i c.loop-i.place (omega (arith, c.loop-i-test.true)) (omega (arith, c.loop-i-test.true, c.loop-i.invariant.inside)) c.in-Hole.pair
    c.in-Hole.is c.requires.as_many c.loop-i.invariant.left c.requires.known in
    omega (arith, fits, c.loop-i.invariant.long, c.loop-i.by_variable.ok.0)

pub loop-i-preserved-in-Hole : goal.loop-i-preserved-in-Hole
loop-i-preserved-in-Hole c =
    let e : c.loop-i.i ≡ suc (c.loop-i.i - 1) = omega (arith, c.loop-i-test.true) in
    let b : c.loop-i.i - 1 < length c.args.items.now = omega (arith, c.loop-i-test.true, c.loop-i.invariant.inside) in
    record {
      inside = omega (arith, c.loop-i.invariant.inside);
      long = length-set c.loop-i.by_variable.items c.in-Hole.pair.variable _ ∙ c.loop-i.invariant.long;
      left = left_less c.args.items.now c.args.states.now c.args.count (c.loop-i.i - 1) c.loop-i.i c.loop-i.place e b c.in-Hole.pair c.in-Hole.is c.requires.as_many c.loop-i.invariant.left;
      at = pair_put c.args.items.now c.args.states.now c.args.count (c.loop-i.i - 1) c.loop-i.i c.loop-i.place e b c.in-Hole.pair c.in-Hole.is c.requires.as_many c.loop-i.invariant.left c.loop-i.by_variable.items c.loop-i.invariant.long
          c.requires.known c.loop-i.invariant.at;
    }
