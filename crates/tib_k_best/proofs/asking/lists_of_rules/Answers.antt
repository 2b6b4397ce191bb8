use Rattle.std.proofs.Common.{subst, sym}
use Rattle.tib_ranked_trees.specs.Below.{IsDeterministicBelow}
use Rattle.tib_ranked_trees.specs.ListsOf.{ListsOf}
use Rattle.tib_k_best.specs.Trimmed.{HaveTreesBelow}
use Rattle.tib_k_best.proofs.Bests.{best_listed}
use Rattle.tib_k_best.proofs.Counting.{bound_listed, fronts_listed, states_listed}
use Rattle.tib_k_best.proofs.asking.lists_of_rules.Goals as goal

pub list_trees-requires-clause-form : goal.list_trees-requires-clause-form
list_trees-requires-clause-form g c = λ is. subst (λ (z : ListsOf). IsDeterministicBelow z.rules) (sym c.in-Ok.ensures.empty) (c.requires.form is)

pub returns-then-not-could-clause-none : goal.returns-then-not-could-clause-none
returns-then-not-could-clause-none g c = λ trees.
    c.in-Ok-list_trees.ensures.not c.if-not-could.true (subst (λ (z : ListsOf). HaveTreesBelow g.S.Semiring.product z.rules) (sym c.in-Ok.ensures.empty) trees)

pub returns-clause-best : goal.returns-clause-best
returns-clause-best g c =
    best_listed g.S.Semiring.product c.args.rules.now c.args.labels.now _ _ c.in-Ok.lists c.args.k c.in-Ok.ensures.empty _ (c.in-Ok-list_trees.ensures.best c.if-not-could.false)

pub returns-clause-fronts : goal.returns-clause-fronts
returns-clause-fronts g c = λ is.
    fronts_listed c.args.rules.now c.args.labels.now _ _ c.in-Ok.lists c.list_trees.new.lists c.in-Ok.ensures.empty g.S.Semiring.product (c.in-Ok-list_trees.ensures.fronts c.if-not-could.false is)

pub returns-clause-states : goal.returns-clause-states
returns-clause-states g c = states_listed c.args.rules.now c.args.labels.now _ _ c.in-Ok.lists c.list_trees.new.lists c.in-Ok.ensures.empty c.in-Ok-list_trees.ensures.states

pub returns-clause-bound : goal.returns-clause-bound
returns-clause-bound g c = λ is.
    bound_listed c.args.rules.now c.args.labels.now _ _ c.in-Ok.lists c.list_trees.new.lists c.in-Ok.ensures.empty (c.in-Ok-list_trees.ensures.bound c.if-not-could.false is)
