use Rattle.std.proofs.Common.{◌≡◌, refl, ℕ, List, ◌++◌, ◌+◌, drop, suc, arith, sym, subst}
use Rattle.std.proofs.lemmas.List.{get_or_read}
use Rattle.tib_lex.specs.Lists.{Along}
use Rattle.tib_determinize.specs.Settling.{IsOver}
use Rattle.tib_determinize.proofs.LeastCosts.{along_step, along_done}
use Rattle.tib_determinize.proofs.settling.residuals.Goals as goal

pub loop-i-preserved : goal.loop-i-preserved
loop-i-preserved g c = λ rest a.
    let at = get_or_read c.args.costs.now c.loop-i.i c.index-costs-i.result c.loop-i-test.true c.index-costs-i.is (0, 0) in
    let next : c.loop-i.i + 1 ≡ suc c.loop-i.i = omega arith in
    let over = IsOver g.S.Semiring.product c.args.least in
    subst (λ (zs : List (ℕ × ℕ)). Along over c.args.costs.now (zs ++ rest)) (sym c.in_ok-push.ensures.items)
    (along_step over c.args.costs.now c.loop-i.i (0, 0) c.loop-i.over.items (c.index-costs-i.result.0, c.residual.result) c.loop-i-test.true
    (subst (λ (x : ℕ × ℕ). over x (c.index-costs-i.result.0, c.residual.result)) at (refl, c.residual.ensures))
    c.loop-i.invariant rest (subst (λ n. Along over (drop n c.args.costs.now) rest) next a))

pub returns : goal.returns
returns g c = along_done (IsOver g.S.Semiring.product c.args.least) c.args.costs.now c.loop-i.i c.loop-i.over.items c.loop-i-test.false c.loop-i.invariant
