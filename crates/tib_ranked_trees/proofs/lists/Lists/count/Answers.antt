use Rattle.std.proofs.Common.{ap, sym, ◌∙◌}
use Rattle.std.specs.Prelude.{ℕ}
use Rattle.tib_tree.specs.Trees.{count}
use Rattle.tib_grammar.specs.Run.{rule_at}
use Rattle.tib_grammar.specs.declared.Rule.{Rule}
use Rattle.tib_ranked_trees.specs.ListsOf.{ListsOf}
use Rattle.tib_ranked_trees.proofs.Children.{many_holes, rule_read}
use Rattle.tib_ranked_trees.proofs.lists.Lists.count.Goals as goal

pub returns-clause-many : goal.returns-clause-many
returns-clause-many c =
    c.root-label.ensures.rank
    ∙ ap (λ (r : Rule ℕ). count r.right.kids) (rule_read c.args.self.now c.self.inside.rules.now c.args.rule c.index-self-rule.result (ap (λ (x : ListsOf). x.rules) c.self.view_is) c.requires.rule)
    ∙ sym (many_holes (rule_at c.args.self.now.rules c.args.rule).right.kids (c.requires.sound.normal c.args.rule c.requires.rule).are_holes)
