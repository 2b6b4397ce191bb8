use Rattle.std.proofs.Common.{arith, ◌≡◌, ℕ, List, take, get_or, subst, sym, inl, inr}
use Rattle.std.proofs.lemmas.List.{take_all}
use Rattle.tib_lex.specs.Lists.{Has}
use Rattle.tib_determinize.specs.declared.alive.Alive.{Alive}
use Rattle.tib_determinize.specs.Alive.{states_of}
use Rattle.tib_determinize.specs.Vectors.{vector_at}
use Rattle.tib_determinize.proofs.PositionsTried.{taken_more, has_sorted, sorted_ascend}
use Rattle.tib_determinize.proofs.wanted.wanted_at.Goals as goal

pub loop-one-preserved : goal.loop-one-preserved
loop-one-preserved c = λ p r a up only has stands.
    elim (taken_more c.args.alive.now c.loop-one.one-index c.one-item.result a c.loop-one-test.true c.one-item.is has) [
      | inl k ↦ c.in_ok-add_wanted.ensures.more p (c.loop-one.invariant p r a up only k stands)
      | inr e ↦ c.in_ok-add_wanted.ensures.own p r up only
          (subst (λ (x : Alive). Has {A = ℕ × ℕ} (vector_at c.args.walk.now.order.now p) (get_or (states_of c.args.walk.now.rules.now x.rule) c.args.place 0, r)) (sym e) stands)
    ]

pub returns-clause-wanted : goal.returns-clause-wanted
returns-clause-wanted c = λ p r a up only has stands.
    let done = c.loop-one-test.false in
    let all : take c.loop-one.one-index c.args.alive.now ≡ c.args.alive.now = take_all c.loop-one.one-index c.args.alive.now (omega (arith, done)) in
    has_sorted c.loop-one.wanted.items c.sort_unstable.new.self.items p c.sort_unstable.ensures.permutation
    (c.loop-one.invariant p r a up only (subst (λ (xs : List Alive). Has xs a) (sym all) has) stands)

pub returns-clause-ascends : goal.returns-clause-ascends
returns-clause-ascends c = sorted_ascend c.sort_unstable.new.self.items c.sort_unstable.ensures.sorted
