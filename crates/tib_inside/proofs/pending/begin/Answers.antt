use Rattle.std.proofs.Common.{arith, ap, ◌∙◌}
use Rattle.std.specs.Prelude.{Some}
use Rattle.std.proofs.lemmas.List.{get_or_read}
use Rattle.tib_cost.specs.Least.{times}
use Rattle.tib_grammar.specs.Run.{no_rule}
use Rattle.tib_inside.specs.Settling.{costs_in}
use Rattle.tib_inside.proofs.Moving.{begun}
use Rattle.tib_inside.proofs.pending.begin.Goals as goal

pub loop-n-preserved : goal.loop-n-preserved
loop-n-preserved g c =
    let at = get_or_read c.args.rules.now c.loop-n.n c.index-rules-n.result c.loop-n-test.true c.index-rules-n.is no_rule in
    let counted = get_or_read c.args.holes.now.counts.items c.loop-n.n c.index.result.now (omega (arith, c.requires.holes.counted)) c.index.ensures 0 in
    begun g.met.S.Semiring.laws c.args.rules.now (costs_in c.args.costs.now) c.loop-n.n (record { product = c.times.result; missing = c.index.result.now; left = c.index-rules-n.result.left }) c.loop-n.pending.items c.push.new.self.items c.loop-n.agenda c.offer.new.agenda
    c.loop-n-test.true c.requires.none (ap (λ r. r.left) at) (counted ∙ c.requires.holes.counts_are c.loop-n.n c.loop-n-test.true)
    (c.times.ensures ∙ ap (λ z. times g.S.Semiring.product (Some c.index-rules-n.result.cost) (Some z)) c.one.ensures ∙ ap (λ r. times g.S.Semiring.product (Some r.cost) (Some 0)) at)
    c.loop-n.invariant c.in_ok-offer.ensures c.in_ok-push.ensures.items
