use Rattle.std.proofs.Common.{ℕ, List, sym, subst}
use Rattle.tib_lex.specs.Lists.{Has}
use Rattle.tib_determinize.specs.Alive.{AreAscending}
use Rattle.tib_determinize.proofs.Holding.{first_below}
use Rattle.tib_determinize.proofs.holders.Holders.has_below.Goals as goal

pub returns : goal.returns
returns c = λ marks order p r h marked low has.
    let q = c.args.state in
    let is = sym c.all_of-positions.ensures in
    first_below c.all_of-positions.result.now c.args.bound p (subst AreAscending is (h.ascend q)) low (subst (λ (xs : List ℕ). Has xs p) is (h.whole p q r marked has))
