use Rattle.std.proofs.Common.{subst, sym}
use Rattle.tib_grammar.specs.GrammarOf.{GrammarOf}
use Rattle.tib_inside.specs.Trimmed.{IsTrimmed, HasSeriesOfEach}
use Rattle.tib_inside.proofs.StillNormal.{still_normal}
use Rattle.tib_inside.proofs.trimming.trim_normal.Goals as goal

pub unreachable-requires : goal.unreachable-requires
unreachable-requires g c =
    let trimmed = subst (λ (o : GrammarOf). IsTrimmed g.S.Semiring.product o c.in_ok-trimmed.trimmed) c.into_grammar.ensures.same c.in_ok-trimmed.ensures.trimmed in
    let some = c.in_ok-normal.ensures.some.1 (still_normal g.S.Semiring.product c.args.normal c.in_ok-trimmed.trimmed trimmed c.into_grammar.ensures.normal) in
    let bad = rw c.in-None.is at some in
    absurd (cc bad)

pub returns-clause-each : goal.returns-clause-each
returns-clause-each g c =
    let same = rw c.in-Some.is at c.in_ok-normal.ensures.same in
    subst (λ (n : GrammarOf). HasSeriesOfEach g.S.Semiring.product c.args.normal n) (sym same)
    (subst (λ (o : GrammarOf). HasSeriesOfEach g.S.Semiring.product o c.in_ok-trimmed.trimmed) c.into_grammar.ensures.same c.in_ok-trimmed.ensures.each)
