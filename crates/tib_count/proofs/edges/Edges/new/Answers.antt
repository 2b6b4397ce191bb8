use Rattle.std.proofs.Common.{arith, ap, ◌≤◌, length, vec_len}
use Rattle.std.proofs.lemmas.List.{get_or_read, length-append}
use Rattle.tib_grammar.specs.Run.{no_rule}
use Rattle.tib_grammar.specs.Sides.{holes_of}
use Rattle.tib_count.proofs.EdgesOf.{edges_step}
use Rattle.tib_count.proofs.edges.Edges.new.Goals as goal
use Rattle.tib_inside.proofs.Occurring.{filled}

pub loop-rule-preserved : goal.loop-rule-preserved
loop-rule-preserved c =
    let longer : length c.loop-rule.froms.items ≤ length c.add_side.new.states.items =
    omega (arith, c.loop-rule.invariant.as_many, ap length c.in_ok-add_side.ensures, length-append c.loop-rule.tos.items (holes_of c.rule-item.result.right))
    in
    edges_step c.args.rules.now c.loop-rule.rule-index c.rule-item.result c.loop-rule.froms.items c.loop-rule.tos.items c.resize.new.self.items c.add_side.new.states.items
    c.loop-rule-test.true (get_or_read c.args.rules.now c.loop-rule.rule-index c.rule-item.result c.loop-rule-test.true c.rule-item.is no_rule) c.loop-rule.invariant c.in_ok-add_side.ensures
    (filled c.loop-rule.froms.items c.resize.new.self.items c.len.result (vec_len c.loop-rule.froms) c.rule-item.result.left (length c.add_side.new.states.items) c.in_ok-resize.ensures.items (omega (arith, c.len.ensures, c.add_side.new.states.ok.0)) (omega (arith, c.loop-rule.froms.ok.0)) longer)
