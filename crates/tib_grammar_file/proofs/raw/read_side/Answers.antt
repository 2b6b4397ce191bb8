use Rattle.std.proofs.Common.{arith, refl}
use Rattle.tib_tree.proofs.Growing.{grows_twice, grows_not}
use Rattle.tib_grammar_file.proofs.RawRead.{no_nodes, nodes_step}
use Rattle.tib_grammar_file.proofs.raw.read_side.Goals as goal

pub loop-i-init : goal.loop-i-init
loop-i-init c = record {
  within = omega arith;
  nodes = no_nodes c.args.texts.now c.args.nodes.now.items _ c.args.line.now c.args.places.now _ refl refl;
  grows = grows_not _ _ refl;
  few = omega arith;
}

pub loop-i-preserved : goal.loop-i-preserved
loop-i-preserved c =
    let i = c.loop-i.invariant in
    record {
      within = omega arith;
      nodes = nodes_step c.args.line.now c.args.places.now c.loop-i.i _ c.loop-i.texts c.read_item.new.texts c.args.nodes.now.items c.loop-i.nodes.items _ c.in_ok-item.item c.loop-i-test.true i.within i.nodes c.read_item.ensures.grows c.in_ok-item.ensures.item c.in_ok-push.ensures.items;
      grows = grows_twice _ _ _ i.grows c.read_item.ensures.grows;
      few = omega (arith, i.few, i.within, c.loop-i-test.true, c.read_item.ensures.few);
    }

pub read_item-requires-clause-room : goal.read_item-requires-clause-room
read_item-requires-clause-room c = omega (arith, c.loop-i.invariant.few, c.loop-i.invariant.within, c.loop-i-test.true, c.requires.room)
