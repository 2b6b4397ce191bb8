use Rattle.std.proofs.Common.{sym, subst}
use Rattle.tib_grammar.specs.GrammarOf.{GrammarOf}
use Rattle.tib_prune.specs.Pruned.{IsPruned, KeepsCheapTrees, HadNoGreaterCosts, StandInCheapRuns}
use Rattle.tib_prune.proofs.Kept.{still_normal}
use Rattle.tib_prune.proofs.pruning.prune.Goals as goal

pub unreachable-requires : goal.unreachable-requires
unreachable-requires g c =
    let some = c.in_ok-normal.ensures.some.1 (still_normal g.met.S.Semiring.laws c.args.normal.rules c.args.beam c.in_ok-grammar.grammar.rules c.in_ok-grammar.ensures.pruned.rules c.grammar.ensures.normal) in
    let bad = rw c.in-None.is at some in
    absurd (cc bad)

pub returns-clause-costs : goal.returns-clause-costs
returns-clause-costs g c =
    let same = rw c.in-Some.is at c.in_ok-normal.ensures.same in
    subst (λ (n : GrammarOf). HadNoGreaterCosts g.S.Semiring.product c.args.normal.rules n.rules) (sym same)
    c.in_ok-grammar.ensures.costs

pub returns-clause-cheap : goal.returns-clause-cheap
returns-clause-cheap g c =
    let same = rw c.in-Some.is at c.in_ok-normal.ensures.same in
    subst (λ (n : GrammarOf). KeepsCheapTrees g.S.Semiring.product c.args.normal.rules c.args.beam n.rules) (sym same) c.in_ok-grammar.ensures.cheap

pub returns-clause-runs : goal.returns-clause-runs
returns-clause-runs g c =
    let same = rw c.in-Some.is at c.in_ok-normal.ensures.same in
    subst (λ (n : GrammarOf). StandInCheapRuns g.S.Semiring.product c.args.normal.rules c.args.beam n.rules) (sym same) c.in_ok-grammar.ensures.runs

pub returns-clause-pruned : goal.returns-clause-pruned
returns-clause-pruned g c =
    let same = rw c.in-Some.is at c.in_ok-normal.ensures.same in
    subst (λ (n : GrammarOf). IsPruned g.S.Semiring.product c.args.beam c.args.normal n) (sym same) c.in_ok-grammar.ensures.pruned
