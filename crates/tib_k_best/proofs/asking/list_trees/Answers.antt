use Rattle.std.specs.Prelude.{◌<◌}
use Rattle.std.proofs.Common.{arith, refl, subst, sym}
use Rattle.tib_ranked_trees.specs.Below.{IsDeterministicBelow}
use Rattle.tib_ranked_trees.specs.Levels.{IsOrderly}
use Rattle.tib_k_best.specs.Trimmed.{HaveTreesBelow}
use Rattle.tib_k_best.proofs.Bests.{best_first, best_over, fault_cause}
use Rattle.tib_k_best.proofs.Counting.{bound_first, fronts_first, fronts_same}
use Rattle.tib_k_best.proofs.Starting.{cause_among}
use Rattle.tib_k_best.proofs.Trimming.{trees_below}
use Rattle.tib_k_best.proofs.asking.list_trees.Goals as goal

pub returns-in-Err-clause-cause : goal.returns-in-Err-clause-cause
returns-in-Err-clause-cause g c =
    cause_among g.S.Semiring.product c.args.lists.now.labels c.args.lists.now.labels c.args.lists.now.rules c.args.lists.now.rules refl refl 1 c.args.k (omega (arith, c.requires.some)) c.in-Err.error c.in-Err.ensures.cause

pub returns-then-k-eq1-clause-best : goal.returns-then-k-eq1-clause-best
returns-then-k-eq1-clause-best g c = λ _.
    best_first g.S.Semiring.product c.args.lists.now c.first_trees.new.lists c.args.k c.if-k-eq1.true c.in-Ok.ensures.rules c.in-Ok.ensures.labels c.in-Ok.ensures.firsts

pub returns-then-k-eq1-clause-fronts : goal.returns-then-k-eq1-clause-fronts
returns-then-k-eq1-clause-fronts g c = λ _ _.
    fronts_first g.S.Semiring.product c.args.lists.now c.first_trees.new.lists c.in-Ok.ensures.rules c.in-Ok.ensures.labels c.in-Ok.ensures.firsts

pub returns-then-k-eq1-clause-bound : goal.returns-then-k-eq1-clause-bound
returns-then-k-eq1-clause-bound g c = λ _ _. bound_first g.S.Semiring.product c.args.lists.now c.first_trees.new.lists c.in-Ok.ensures.states c.in-Ok.ensures.firsts

pub ask-requires-clause-orderly : goal.ask-requires-clause-orderly
ask-requires-clause-orderly g c = subst (λ rs. IsOrderly g.S.Semiring.product rs) (sym c.in-Ok.ensures.rules) c.requires.orderly

pub ask-requires-clause-form : goal.ask-requires-clause-form
ask-requires-clause-form g c = λ is. subst (λ rs. IsDeterministicBelow rs) (sym c.in-Ok.ensures.rules) (c.requires.form is)

pub returns-then-not-have_trees_below-clause-not : goal.returns-then-not-have_trees_below-clause-not
returns-then-not-have_trees_below-clause-not g c = λ _ trees.
    c.have_trees_below.ensures.no c.if-not-have_trees_below.true
    (trees_below g.S.Semiring.product c.first_trees.new.lists (subst (λ rs. HaveTreesBelow g.S.Semiring.product rs) (sym c.in-Ok.ensures.rules) trees) c.in-Ok.ensures.firsts)

pub returns-in-Ok-ask-clause-best : goal.returns-in-Ok-ask-clause-best
returns-in-Ok-ask-clause-best g c = λ _.
    best_over g.S.Semiring.product c.args.lists.now c.first_trees.new.lists c.args.k c.in-Ok.ensures.rules c.in-Ok.ensures.labels _ c.in-Ok-ask.ensures.best

pub returns-in-Ok-ask-clause-fronts : goal.returns-in-Ok-ask-clause-fronts
returns-in-Ok-ask-clause-fronts g c = λ _ is q.
    fronts_same g.S.Semiring.product c.args.lists.now c.first_trees.new.lists c.in-Ok.ensures.rules c.in-Ok.ensures.labels q (c.in-Ok-ask.ensures.fronts is q)

pub returns-in-Err-ask-clause-cause : goal.returns-in-Err-ask-clause-cause
returns-in-Err-ask-clause-cause g c =
    fault_cause g.S.Semiring.product c.args.lists.now c.first_trees.new.lists c.args.k c.in-Ok.ensures.rules c.in-Ok.ensures.labels c.in-Err-ask.error c.fault_of.result c.fault_of.ensures
    c.in-Err-ask.ensures.cause
