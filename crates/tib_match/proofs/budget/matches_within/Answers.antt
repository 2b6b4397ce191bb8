use Rattle.std.specs.Prelude.{IfSome}
use Rattle.std.proofs.Common.{rules, ◌≡◌, length, ap, subst, sym, ◌∙◌}
use Rattle.std.proofs.lemmas.List.{length-replicate}
use Rattle.tib_grammar.specs.Items.{holes_in}
use Rattle.tib_match.specs.declared.hole_cost.HoleCost.TheVariants.{Free}
use Rattle.std.proofs.lemmas.Result.{IfOk-weaker}
use Rattle.tib_match.specs.MatchLists.{AreMatches}
use Rattle.tib_match.specs.Searching.{AnswersWhere, IsWithin}
use Rattle.tib_match.proofs.Budgets.{all_where, free_where}
use Rattle.tib_match.proofs.StackedItems.{of_side}
use Rattle.tib_match.proofs.budget.matches_within.Goals as goal

pub returns-in-Some : goal.returns-in-Some
returns-in-Some g c =
    all_where g.S.Semiring.product c.args.normal.now.rules c.args.side.now c.args.state _ c.in-Some.few.items
    (subst (λ v. IfSome v (λ ms. AreMatches g.S.Semiring.product c.args.normal.now.rules c.args.side.now c.args.state ms.items)) c.in-Some.is c.in_ok-few.ensures)

pub returns : goal.returns
returns g c =
    IfOk-weaker c.beyond_few.result _ _
    (λ answer are. free_where g.met.S.Semiring.laws c.args.normal.now.rules c.grammar.ensures.normal.normal c.args.side.now c.items.ensures.leaves c.args.state c.args.above c.items.result.now (sym c.items.ensures.items) c.args.most answer
    (subst (λ hs. AnswersWhere g.S.Semiring.product c.args.normal.now.rules c.args.side.now c.args.state (IsWithin g.S.Semiring.product c.args.above hs) c.args.most answer) (c.deref.ensures.value ∙ c.in_ok-costs.ensures) are))
    c.beyond_few.ensures

pub beyond_few-requires : goal.beyond_few-requires
beyond_few-requires g c =
    let state = c.requires in
    let many : length c.deref.result.now ≡ length (holes_in c.items.result.now) =
    ap length (c.deref.ensures.value ∙ c.in_ok-costs.ensures) ∙ length-replicate (length (holes_in c.items.result.now)) Free
    in
    let costs = of_side c.items.result.now c.args.side.now (length c.deref.result.now) c.items.ensures.items many in
    search (rules, state, costs)
