use Rattle.std.proofs.Common.{arith}
use Rattle.tib_tree.specs.Pairs.{pair_of, pairs_of}
use Rattle.tib_tree.proofs.Growing.{grows_twice}
use Rattle.tib_tree.proofs.NodesRead.{nodes_step, pairs_more, blanks_step}
use Rattle.tib_tree.proofs.Adding.{texts_step, one_longer}
use Rattle.tib_tree.proofs.trees.read_nodes.Goals as goal

pub loop-i-preserved : goal.loop-i-preserved
loop-i-preserved c =
    let i = c.loop-i.invariant in
    record {
      within = omega arith;
      nodes = nodes_step c.args.line.now c.args.places.now c.loop-i.i _ c.loop-i.labels c.read_node.new.labels (pairs_of c.loop-i.nodes.items) _ (pair_of c.in_ok-node.node) c.loop-i-test.true i.within i.nodes c.read_node.ensures.grows c.in_ok-node.ensures.node
          (pairs_more c.loop-i.nodes.items _ c.in_ok-node.node c.in_ok-push.ensures.items);
      shape = blanks_step c.args.places.now c.loop-i.i _ c.loop-i.nodes.items _ c.in_ok-node.node c.loop-i-test.true i.within i.shape c.in_ok-node.ensures.shape c.in_ok-push.ensures.items;
      added = texts_step c.args.line.now c.args.places.now c.loop-i.i _ c.args.labels.now c.loop-i.labels c.read_node.new.labels c.loop-i-test.true i.within i.added c.in_ok-node.ensures.added;
      table = omega (arith, i.table, one_longer _ _ _ c.in_ok-node.ensures.added);
      grows = grows_twice _ _ _ i.grows c.read_node.ensures.grows;
    }
