use Rattle.std.proofs.Common.{arith}
use Rattle.tib_grammar_file.proofs.Resolved.{states_begin, states_step, states_end}
use Rattle.tib_grammar_file.proofs.resolve.states_of.Goals as goal

pub loop-n-init : goal.loop-n-init
loop-n-init c = states_begin c.args.names.now c.args.texts.now c.in_ok-states.states.items c.in_ok-states.ensures.items

pub loop-n-preserved : goal.loop-n-preserved
loop-n-preserved c =
    states_step c.args.names.now c.args.texts.now c.loop-n.n c.loop-n.states.items c.push.new.self.items c.find-state.result c.text-text.result.now c.text-text.ensures c.find-state.ensures.found c.find-state.ensures.none c.in_ok-push.ensures.items c.loop-n.invariant

pub returns : goal.returns
returns c = states_end c.args.names.now c.args.texts.now c.loop-n.n c.loop-n.states.items (omega (arith, c.len-count.ensures.value, c.loop-n-test.false)) c.loop-n.invariant
