use Rattle.std.proofs.Common.{arith, ◌≤◌, ◌<◌, length}
use Rattle.tib_tree.specs.Trees.{count}
use Rattle.tib_weigh.specs.Found.{cost_of}
use Rattle.tib_weigh.specs.Vectors.{vectors}
use Rattle.tib_weigh.proofs.Zipped.{ok_two}
use Rattle.tib_weigh.proofs.Stacks.{length-vectors}
use Rattle.tib_weigh.proofs.Among.{count-Weighed}
use Rattle.tib_weigh.proofs.Tries.{vector_found}
use Rattle.tib_weigh.proofs.index.Shape.put_vector.Goals as goal

pub returns-clause-vector : goal.returns-clause-vector
returns-clause-vector g c = ok_two _ _ _ c.move_into.result c.move_into.ensures.ascends c.move_into.ensures.costs (λ x ascends costs f tables ts w.
    let vs = vectors c.args.stack.now in
    let inside : c.best_place-place.result < c.args.rank = omega (arith, c.best_place-place.ensures, tables.long) in
    let deep : c.args.rank ≤ length vs = omega (arith, c.requires.enough, length-vectors c.args.stack.now) in
    let enough : c.args.rank ≤ count ts = omega (arith, deep, count-Weighed g.S.Semiring.product c.args.rules.now ts vs w) in
    vector_found g.met.S.Semiring.laws c.args.rules.now c.requires.normal ts vs f c.args.rank c.best_place-place.result c.index.result.now (cost_of c.try_table.new.found) enough deep inside w
    (tables.each c.best_place-place.result c.index.result.now inside c.index.ensures) c.in_ok-try_table.ensures.tried c.move_into.new.vector.items ascends costs)
