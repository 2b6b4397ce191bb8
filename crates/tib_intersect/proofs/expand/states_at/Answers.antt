use Rattle.std.proofs.Common.{◌≡◌, ◌+◌, ◌-◌, ℕ, take, drop, arith, ap, ◌∙◌, length}
use Rattle.tib_key_edges.proofs.Ends.{ends_fit}
use Rattle.tib_intersect.proofs.Settled.{positions_are}
use Rattle.tib_intersect.proofs.expand.states_at.Goals as goal

pub slice_bounds-result-end-2 : goal.slice_bounds-result-end-2
slice_bounds-result-end-2 c = ends_fit c.requires.0 (length c.args.ends.now) c.args.rule.now.first_end c.args.rule.now.rank c.requires.1.1 (omega (arith, c.if-rank-eq0.false))

pub returns-clause-are : goal.returns-clause-are
returns-clause-are c =
    let first : ℕ = c.args.rule.now.first_end in
    let rank : ℕ = c.args.rule.now.rank in
    let long : first + rank - first ≡ rank = omega arith in
    ap (λ k. take k (drop first c.args.ends.now)) long
    ∙ positions_are c.args.ends.now first rank (ends_fit c.requires.0 (length c.args.ends.now) first rank c.requires.1.1 (omega (arith, c.if-rank-eq0.false)))
