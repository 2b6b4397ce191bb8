use Rattle.std.proofs.Common.{sym, ◌∙◌}
use Rattle.tib_ranked_trees.proofs.Children.{many_holes}
use Rattle.tib_compare.proofs.moving.count_of.Goals as goal

pub returns-clause-many : goal.returns-clause-many
returns-clause-many c = c.root-label.ensures.rank ∙ sym (many_holes c.args.rule.now.right.kids c.requires.are_holes)
