use Rattle.std.proofs.Common.{map}
use Rattle.indexmap.specs.IndexSet.{keys}
use Rattle.tib_tree.specs.Shape.{items_back}
use Rattle.tib_tree.proofs.Growing.{grows_twice}
use Rattle.tib_grammar_file.specs.Found.{text_at}
use Rattle.tib_transducer_file.proofs.AddedLabels.{sides_add}
use Rattle.tib_transducer_file.proofs.LinesRead.{variables_few, rule_made}
use Rattle.tib_transducer_file.proofs.SideTrees.{right_few}
use Rattle.tib_transducer_file.proofs.rules.build.Goals as goal

pub right_nodes-requires-clause-nodes : goal.right_nodes-requires-clause-nodes
right_nodes-requires-clause-nodes g c = c.requires.found.holds.1

pub right_nodes-requires-clause-variables : goal.right_nodes-requires-clause-variables
right_nodes-requires-clause-variables g c = variables_few c.requires.good.0 c.args.source.now.line.now c.args.source.now.left.now c.args.source.now.right.now c.args.source.now.found (keys c.args.variables.now) c.args.cost c.requires.found.lies c.requires.good.1

pub rule-requires-clause-few : goal.rule-requires-clause-few
rule-requires-clause-few g c = right_few g.R.RightReader.symbol_of c.right_nodes.new.names c.right_nodes.new.labels (keys c.args.variables.now) c.in_ok-nodes.nodes.items c.args.source.now.line.now c.args.source.now.right.now c.requires.good.1.few_right c.in_ok-nodes.ensures.nodes

pub rule-requires-clause-whole : goal.rule-requires-clause-whole
rule-requires-clause-whole g c = record {
  names = c.right_nodes.new.names;
  labels = c.right_nodes.new.labels;
  numbers = keys c.args.variables.now;
  items = items_back c.args.source.now.line.now c.args.source.now.right.now;
  whole = c.requires.found.holds.0;
  are = c.in_ok-nodes.ensures.nodes;
}

pub returns-clause-rule : goal.returns-clause-rule
returns-clause-rule g c =
    rule_made g.R.RightReader.view c.rule.result c.read_name.new.names c.right_nodes.new.names c.read_left.new.labels c.right_nodes.new.labels c.args.source.now.line.now c.args.source.now.left.now c.args.source.now.right.now c.args.source.now.found (keys c.args.variables.now) c.requires.good.0 c.args.cost c.in_ok-state.state c.in_ok-left.left (map g.R.RightReader.symbol_of c.in_ok-nodes.nodes.items)
    c.rule.ensures c.requires.found.lies c.requires.good.1 c.right_nodes.ensures.names c.right_nodes.ensures.labels c.in_ok-state.ensures.named c.in_ok-left.ensures.side c.in_ok-left.ensures.numbered c.in_ok-nodes.ensures.nodes

pub returns-clause-names : goal.returns-clause-names
returns-clause-names g c = grows_twice _ _ _ c.read_name.ensures.grows c.right_nodes.ensures.names

pub returns-in_err-nodes-clause-names : goal.returns-in_err-nodes-clause-names
returns-in_err-nodes-clause-names g c = grows_twice _ _ _ c.read_name.ensures.grows c.right_nodes.ensures.names

pub returns-clause-texts : goal.returns-clause-texts
returns-clause-texts g c =
    let left = items_back c.args.source.now.line.now c.args.source.now.left.now in
    let right = items_back c.args.source.now.line.now c.args.source.now.right.now in
    let weight = text_at c.args.source.now.line.now c.args.source.now.found.weight in
    sides_add c.args.labels.now c.read_left.new.labels c.right_nodes.new.labels left right weight (c.in_ok-left.ensures.texts right weight) c.in_ok-nodes.ensures.texts
