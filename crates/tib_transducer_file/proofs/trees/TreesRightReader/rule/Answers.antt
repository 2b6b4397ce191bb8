use Rattle.std.proofs.Common.{ap}
use Rattle.tib_grammar.specs.Items.{pairs_of}
use Rattle.tib_transducer_file.specs.Value.{view_of}
use Rattle.tib_transducer_file.proofs.SideTrees.{are_one, right_ranks}
use Rattle.tib_transducer_file.proofs.trees.TreesRightReader.rule.Goals as goal

pub right_side-requires-clause-tree : goal.right_side-requires-clause-tree
right_side-requires-clause-tree c =
    let w = c.requires.whole in
    are_one (pairs_of c.args.nodes.items) w.items w.whole (right_ranks w.names w.labels w.numbers (pairs_of c.args.nodes.items) w.items w.are)

pub returns : goal.returns
returns c = ap (λ ss. view_of c.args.state c.args.left ss c.args.cost) c.right_side.ensures
