use Rattle.std.specs.Prelude.{◌≡◌, List, length}
use Rattle.std.proofs.Common.{arith, subst, sym}
use Rattle.tib_ranked_trees.specs.Best.{Costed, IsKBest}
use Rattle.tib_ranked_trees.specs.Held.{entries_of, IsSound}
use Rattle.tib_ranked_trees.specs.ListsOf.{ListsOf}
use Rattle.tib_k_best.proofs.Found.{found_is, none_is}
use Rattle.tib_k_best.proofs.best.list_of_rules.Goals as goal

pub of_state-requires-clause-sound : goal.of_state-requires-clause-sound
of_state-requires-clause-sound g c = found_is IsSound _ c.in-Ok-Some.lists c.in-Ok-Some.field-0-is c.in-Ok-Some.ensures.sound

pub of_state-requires-clause-state : goal.of_state-requires-clause-state
of_state-requires-clause-state g c =
    let states : length c.in-Ok-Some.lists.lists ≡ c.args.states = found_is (λ (x : ListsOf). length x.lists ≡ c.args.states) _ c.in-Ok-Some.lists c.in-Ok-Some.field-0-is c.in-Ok-Some.ensures.states in
    omega (arith, states, c.requires.start)

pub returns-in-Ok-Some-clause-best : goal.returns-in-Ok-Some-clause-best
returns-in-Ok-Some-clause-best g c =
    subst (λ (ys : List Costed). IsKBest g.S.Semiring.product c.args.rules.now c.args.labels.now c.args.k ys) (sym c.of_state.ensures)
    (found_is (λ (x : ListsOf). IsKBest g.S.Semiring.product c.args.rules.now c.args.labels.now c.args.k (entries_of x 0)) _ c.in-Ok-Some.lists c.in-Ok-Some.field-0-is c.in-Ok-Some.ensures.best)

pub returns-in-Ok-None-clause-none : goal.returns-in-Ok-None-clause-none
returns-in-Ok-None-clause-none g c = none_is _ _ c.in-Ok-None.field-0-is c.in-Ok-None.ensures.none
