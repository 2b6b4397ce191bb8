use Rattle.std.proofs.Common.{arith, ap, ◌∙◌, length}
use Rattle.std.specs.Prelude.{ℕ}
use Rattle.tib_grammar.specs.Run.{rule_at}
use Rattle.tib_grammar.specs.declared.Rule.{Rule}
use Rattle.tib_grammar.specs.Sides.{holes}
use Rattle.tib_ranked_trees.specs.Levels.{states_of}
use Rattle.tib_ranked_trees.specs.ListsOf.{ListsOf}
use Rattle.tib_ranked_trees.proofs.Children.{rule_read, state_at, below_at, states_below}
use Rattle.tib_ranked_trees.proofs.lists.Lists.state.Goals as goal

pub returns-clause-same : goal.returns-clause-same
returns-clause-same c =
    state_at c.states_below.result.now (states_of (rule_at c.args.self.now.rules c.args.rule)) c.args.i c.state.result
    (c.states_below.ensures.states ∙ ap (λ (r : Rule ℕ). holes r.right.kids) (rule_read c.args.self.now c.self.inside.rules.now c.args.rule c.index-self-rule.result (ap (λ (x : ListsOf). x.rules) c.self.view_is) c.requires.rule))
    c.requires.below c.state.ensures

pub returns-clause-there : goal.returns-clause-there
returns-clause-there c =
    let e = returns-clause-same c in
    let b = below_at (length c.args.self.now.lists) (states_of (rule_at c.args.self.now.rules c.args.rule)) (states_below c.args.self.now c.requires.sound c.args.rule c.requires.rule) c.args.i c.requires.below in
    omega (arith, e, b)
