use Rattle.std.specs.Prelude.{◌≡◌, ◌+◌, ◌≤◌, ℕ, length}
use Rattle.std.proofs.Common.{arith, refl}
use Rattle.tib_ranked_trees.specs.Best.{IsFrontAt, IsKBest}
use Rattle.tib_ranked_trees.specs.Held.{entries_of, IsSound}
use Rattle.tib_ranked_trees.specs.ListsOf.{ListsOf}
use Rattle.tib_lazy_lists.specs.Demands.{entries_held, nodes_of}
use Rattle.tib_k_best.specs.declared.asking.Form.TheVariants.{Deterministic}
use Rattle.tib_k_best.proofs.Counting.{lazy_best, lazy_bound, lazy_fronts, lazy_states}
use Rattle.tib_k_best.proofs.Found.{found_is, none_is}
use Rattle.tib_k_best.proofs.lazy_list.lazy_of_rules.Goals as goal

pub lists_of_rules-requires-clause-form : goal.lists_of_rules-requires-clause-form
lists_of_rules-requires-clause-form g c = λ _. c.requires.form

pub of_lists-requires-clause-sound : goal.of_lists-requires-clause-sound
of_lists-requires-clause-sound g c = found_is IsSound _ c.in-Ok-Some.lists c.in-Ok-Some.field-0-is c.in-Ok-Some.ensures.sound

pub of_lists-requires-clause-few : goal.of_lists-requires-clause-few
of_lists-requires-clause-few g c =
    let states = found_is (λ (x : ListsOf). length x.lists ≡ c.args.states) _ c.in-Ok-Some.lists c.in-Ok-Some.field-0-is c.in-Ok-Some.ensures.states in
    omega (arith, states)

pub of_lists-requires-clause-start : goal.of_lists-requires-clause-start
of_lists-requires-clause-start g c =
    let states = found_is (λ (x : ListsOf). length x.lists ≡ c.args.states) _ c.in-Ok-Some.lists c.in-Ok-Some.field-0-is c.in-Ok-Some.ensures.states in
    omega (arith, states, c.requires.start)

pub returns-in-Ok-Some-clause-best : goal.returns-in-Ok-Some-clause-best
returns-in-Ok-Some-clause-best g c =
    lazy_best c.in-Ok-Some.lists c.of_lists.result c.of_lists.ensures g.S.Semiring.product c.args.rules.now c.args.labels.now c.args.k
    (found_is (λ (x : ListsOf). IsKBest g.S.Semiring.product c.args.rules.now c.args.labels.now c.args.k (entries_of x 0)) _ c.in-Ok-Some.lists c.in-Ok-Some.field-0-is c.in-Ok-Some.ensures.best)

pub returns-in-Ok-Some-clause-fronts : goal.returns-in-Ok-Some-clause-fronts
returns-in-Ok-Some-clause-fronts g c =
    lazy_fronts c.in-Ok-Some.lists c.of_lists.result c.of_lists.ensures g.S.Semiring.product c.args.rules.now c.args.labels.now
    (found_is (λ (x : ListsOf). (Deterministic ≡ Deterministic) → (q : ℕ) → IsFrontAt g.S.Semiring.product c.args.labels.now c.args.rules.now q (entries_of x q)) _ c.in-Ok-Some.lists c.in-Ok-Some.field-0-is
    c.in-Ok-Some.ensures.fronts refl)

pub returns-in-Ok-Some-clause-states : goal.returns-in-Ok-Some-clause-states
returns-in-Ok-Some-clause-states g c =
    lazy_states c.in-Ok-Some.lists c.of_lists.result c.of_lists.ensures _
    (found_is (λ (x : ListsOf). length x.lists ≡ c.args.states) _ c.in-Ok-Some.lists c.in-Ok-Some.field-0-is c.in-Ok-Some.ensures.states)

pub returns-in-Ok-Some-clause-bound : goal.returns-in-Ok-Some-clause-bound
returns-in-Ok-Some-clause-bound g c =
    lazy_bound c.in-Ok-Some.lists c.of_lists.result c.of_lists.ensures _
    (found_is (λ (x : ListsOf). (Deterministic ≡ Deterministic) → entries_held x ≤ c.args.states + nodes_of (entries_of x 0)) _ c.in-Ok-Some.lists c.in-Ok-Some.field-0-is c.in-Ok-Some.ensures.bound refl)

pub returns-in-Ok-None-clause-none : goal.returns-in-Ok-None-clause-none
returns-in-Ok-None-clause-none g c = none_is _ _ c.in-Ok-None.field-0-is c.in-Ok-None.ensures.none
