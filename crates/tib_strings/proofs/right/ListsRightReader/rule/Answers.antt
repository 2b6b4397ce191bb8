use Rattle.std.proofs.Common.{ap, ◌∙◌}
use Rattle.tib_transducer_file.specs.Value.{view_of}
use Rattle.tib_strings.specs.RuleValue.{nodes_of}
use Rattle.tib_strings.proofs.Nodes.{nodes_mapped}
use Rattle.tib_strings.proofs.right.ListsRightReader.rule.Goals as goal

pub returns : goal.returns
returns c = ap (λ ws. view_of c.args.state c.args.left (nodes_of ws) c.args.cost) c.from_list.ensures ∙ ap (λ ss. view_of c.args.state c.args.left ss c.args.cost) (nodes_mapped c.args.nodes.items)
