use Rattle.std.proofs.Common.{arith, ap}
use Rattle.std.proofs.lemmas.List.{get_or_read}
use Rattle.tib_grammar.specs.Run.{no_rule}
use Rattle.tib_normal.proofs.Pairwise.{from_here}
use Rattle.tib_normal.proofs.index.start_of.Goals as goal

pub returns-else-rules-place : goal.returns-else-rules-place
returns-else-rules-place c =
    let at = get_or_read c.args.rules.now c.loop-place.place c.index-rules-place.result c.loop-place-test.true c.index-rules-place.is no_rule in
    from_here c.args.rules.now c.args.q c.loop-place.place c.loop-place-test.true c.loop-place.invariant.before c.requires.ascends
    (omega (arith, c.if-rules-place.false, ap (λ r. r.left) at, ap (λ r. r.left) c.index-rules-place.is))
