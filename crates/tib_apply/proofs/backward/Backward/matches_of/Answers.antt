use Rattle.std.proofs.Common.{◌≡◌, ◌≤◌, subst}
use Rattle.tib_match.specs.Searching.{AnswersWhere}
use Rattle.tib_match.specs.declared.within.Within.TheVariants.{All, More}
use Rattle.tib_apply.specs.BackwardLists.{IsCheap}
use Rattle.tib_apply.proofs.backward.Backward.matches_of.Goals as goal

pub returns-in-All-clause-found : goal.returns-in-All-clause-found
returns-in-All-clause-found g c =
    let rule = c.args.rule.now in
    subst (λ q. AnswersWhere g.S.Semiring.product c.args.self.now.grammar.now.rules rule.right q (IsCheap g.S.Semiring.product rule) c.args.most (All c.in-All.found)) c.second.ensures
    (subst (AnswersWhere g.S.Semiring.product c.args.self.now.grammar.now.rules rule.right c.second.result (IsCheap g.S.Semiring.product rule) c.args.most) c.in-All.is c.in-Ok.ensures)

pub returns-in-More-clause-more : goal.returns-in-More-clause-more
returns-in-More-clause-more g c = λ e.
    let rule = c.args.rule.now in
    subst (λ q. AnswersWhere g.S.Semiring.product c.args.self.now.grammar.now.rules rule.right q (IsCheap g.S.Semiring.product rule) c.args.most More) c.second.ensures
    (subst (AnswersWhere g.S.Semiring.product c.args.self.now.grammar.now.rules rule.right c.second.result (IsCheap g.S.Semiring.product rule) c.args.most) c.in-More.is c.in-Ok.ensures)
