use Rattle.std.proofs.Common.{arith, ◌∙◌, ℕ, subst, sym}
use Rattle.tib_lex.specs.Lists.{Has}
use Rattle.tib_determinize.specs.Vectors.{vector_at}
use Rattle.tib_determinize.proofs.alive.is_held.Goals as goal

pub returns : goal.returns
returns c = λ p up stands.
    let w = c.args.walk.now in
    let marked = sym c.is_marked.ensures ∙ c.if-not-is_marked.false in
    c.has_below.ensures w.wide.now w.order.now p stands.0 c.requires.holders marked (omega (arith, up))
    (subst (λ (q : ℕ). Has {A = ℕ × ℕ} (vector_at w.order.now p) (q, stands.0)) (sym c.state_at-state.ensures) stands.1)
