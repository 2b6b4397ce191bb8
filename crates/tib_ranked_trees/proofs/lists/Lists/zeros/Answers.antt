use Rattle.std.proofs.Common.{◌++◌, ap, ◌∙◌}
use Rattle.std.specs.Prelude.{ℕ, List}
use Rattle.tib_grammar.specs.Run.{rule_at}
use Rattle.tib_ranked_trees.specs.Levels.{states_of}
use Rattle.tib_ranked_trees.specs.Pass.{zeros}
use Rattle.tib_ranked_trees.proofs.Made.{zeros_are, ranks_put}
use Rattle.tib_ranked_trees.proofs.lists.Lists.zeros.Goals as goal

pub returns-clause-put : goal.returns-clause-put
returns-clause-put c =
    let js : List ℕ = zeros (states_of (rule_at c.args.self.now.rules c.args.rule)) in
    ranks_put _ c.args.self.now c.self.view_is c.push_zeros.new.ranks.items js
    (c.in_ok-push_zeros.ensures ∙ ap (λ (ks : List ℕ). c.self.inside.ranks.items ++ ks) (zeros_are (states_of (rule_at c.args.self.now.rules c.args.rule)) c.count-count.result c.count-count.ensures.many))
