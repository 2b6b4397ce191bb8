use Rattle.std.specs.Prelude.{IfSome}
use Rattle.std.proofs.Common.{subst}
use Rattle.tib_match.specs.MatchLists.{AreMatches}
use Rattle.tib_match.specs.Searching.{IsWithin}
use Rattle.tib_match.proofs.Budgets.{all_where}
use Rattle.tib_match.proofs.budget.beyond_few.Goals as goal

pub returns-in-Some : goal.returns-in-Some
returns-in-Some g c =
    all_where g.S.Semiring.product c.args.normal.now.rules c.args.side.now c.args.state (IsWithin g.S.Semiring.product c.args.above c.args.costs.now) c.in-Some.few.items
    (subst (λ v. IfSome v (λ ms. AreMatches g.S.Semiring.product c.args.normal.now.rules c.args.side.now c.args.state ms.items)) c.in-Some.is c.in_ok-few.ensures)
