use Rattle.std.proofs.Common.{sym, ◌∙◌}
use Rattle.tib_k_best.proofs.Bests.{orderly_of}
use Rattle.tib_k_best.proofs.Semirings.{flat_cause}
use Rattle.tib_k_best.proofs.any_grammar.k_best.Goals as goal

pub best_trimmed-requires-clause-orderly : goal.best_trimmed-requires-clause-orderly
best_trimmed-requires-clause-orderly g c =
    orderly_of g.S.Semiring.LEVELLED g.S.Semiring.WEIGHTED g.S.Semiring.product g.met.S.Semiring.laws c.args.normal.now.rules (sym c.is_levelled.ensures ∙ c.if-is_levelled.false) c.requires.free

pub returns-in-Err-clause-cause : goal.returns-in-Err-clause-cause
returns-in-Err-clause-cause g c =
    flat_cause g.S.Semiring.LEVELLED g.S.Semiring.product c.args.labels.now c.args.normal.now.rules c.args.k (sym c.is_levelled.ensures ∙ c.if-is_levelled.false) c.in-Err.error c.in-Err.ensures.cause
