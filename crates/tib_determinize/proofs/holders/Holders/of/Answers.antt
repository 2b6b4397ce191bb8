use Rattle.std.proofs.Common.{ℕ, List, sym, subst}
use Rattle.tib_lex.specs.Lists.{Has}
use Rattle.tib_determinize.proofs.Holding.{below_has}
use Rattle.tib_determinize.proofs.holders.Holders.of.Goals as goal

pub returns : goal.returns
returns c = λ marks order p r h marked low has.
    below_has c.all_of-positions.result.now c.count_below-many.result c.args.bound p c.count_below-many.ensures.behind low
    (subst (λ (xs : List ℕ). Has xs p) (sym c.all_of-positions.ensures) (h.whole p c.args.state r marked has))
