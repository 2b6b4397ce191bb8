use Rattle.std.proofs.Common.{arith, ap, ◌≤◌, length, vec_len}
use Rattle.std.proofs.lemmas.List.{get_or_read, length-append}
use Rattle.tib_grammar.specs.Run.{no_rule}
use Rattle.tib_grammar.specs.Sides.{holes_of}
use Rattle.tib_inside.proofs.Occurring.{holes_more, filled, counted}
use Rattle.tib_inside.proofs.holes.Holes.new.Goals as goal

pub loop-n-preserved : goal.loop-n-preserved
loop-n-preserved c =
    let longer : length c.loop-n.owners.items ≤ length c.add_side.new.states.items =
    omega (arith, c.loop-n.invariant.as_many, ap length c.in_ok-add_side.ensures, length-append c.loop-n.states.items (holes_of c.index-rules-n.result.right))
    in
    holes_more c.args.rules.now c.loop-n.n c.index-rules-n.result c.loop-n.states.items c.loop-n.owners.items c.loop-n.counts.items c.add_side.new.states.items c.resize.new.self.items c.push.new.self.items
    c.loop-n-test.true (get_or_read c.args.rules.now c.loop-n.n c.index-rules-n.result c.loop-n-test.true c.index-rules-n.is no_rule) c.loop-n.invariant c.in_ok-add_side.ensures
    (filled c.loop-n.owners.items c.resize.new.self.items c.len-in-loop-n-2.result (vec_len c.loop-n.owners) c.loop-n.n (length c.add_side.new.states.items) c.in_ok-resize.ensures.items (omega (arith, c.len-in-loop-n-2.ensures, c.add_side.new.states.ok.0)) (omega (arith, c.loop-n.owners.ok.0)) longer)
    (counted c.loop-n.counts.items c.push.new.self.items c.len.result c.len-in-loop-n.result (length c.add_side.new.states.items) (length c.loop-n.owners.items) c.in_ok-push.ensures.items
    (omega (arith, c.len.ensures, c.add_side.new.states.ok.0)) (omega (arith, c.len-in-loop-n.ensures, c.loop-n.owners.ok.0)))
