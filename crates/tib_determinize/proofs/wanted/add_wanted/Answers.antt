use Rattle.std.proofs.Common.{arith, ◌∙◌, ℕ, List, subst, sym}
use Rattle.tib_lex.specs.Lists.{Has}
use Rattle.tib_lex.proofs.Members.{has_left, has_right}
use Rattle.tib_determinize.specs.Vectors.{vector_at}
use Rattle.tib_determinize.proofs.PositionsTried.{has_pushed, last_pushed}
use Rattle.tib_determinize.proofs.wanted.add_wanted.Goals as goal

pub returns-then-place-walk-clause-more : goal.returns-then-place-walk-clause-more
returns-then-place-walk-clause-more c = has_pushed c.args.wanted.now.items c.push.new.self.items c.args.walk.now.position c.in_ok-push.ensures.items

pub returns-then-place-walk-clause-own : goal.returns-then-place-walk-clause-own
returns-then-place-walk-clause-own c = λ p r up only stands.
    subst (Has c.push.new.self.items) (sym (only c.if-place-walk.true)) (last_pushed c.args.wanted.now.items c.push.new.self.items c.args.walk.now.position c.in_ok-push.ensures.items)

pub returns-clause-more : goal.returns-clause-more
returns-clause-more c = λ p h. subst (λ (xs : List ℕ). Has xs p) (sym c.in_ok-extend_from_slice.ensures.items) (has_left c.args.wanted.now.items c.of-positions.result.now p h)

pub returns-clause-own : goal.returns-clause-own
returns-clause-own c = λ p r up only stands.
    let w = c.args.walk.now in
    let marked = sym c.is_marked.ensures ∙ c.if-not-is_marked.false in
    subst (λ (xs : List ℕ). Has xs p) (sym c.in_ok-extend_from_slice.ensures.items)
    (has_right c.args.wanted.now.items c.of-positions.result.now p
    (c.of-positions.ensures w.wide.now w.order.now p r c.requires.holders marked (omega (arith, up))
    (subst (λ (q : ℕ). Has {A = ℕ × ℕ} (vector_at w.order.now p) (q, r)) (sym c.state_at-state.ensures) stands)))
