use Rattle.std.proofs.Common.{◌<◌, ap, sym, subst, length}
use Rattle.std.specs.Prelude.{IfSome}
use Rattle.std.proofs.lemmas.List.{get_or_read}
use Rattle.tib_grammar.specs.Sides.{Side as SideFor}
use Rattle.tib_transducer.specs.Rules.{no_rule, transducer_rule}
use Rattle.tib_transducer.specs.declared.Variable.{Variable}
use Rattle.tib_match.specs.MatchLists.{AreMatches}
use Rattle.tib_match.proofs.Budgets.{all_where}
use Rattle.tib_apply.specs.ForwardLists.{IsAffordable}
use Rattle.tib_apply.proofs.ForwardEdges.{rule_here}
use Rattle.tib_apply.proofs.forward.Forward.matches_of.Goals as goal

pub returns-in-Some-clause-found : goal.returns-in-Some-clause-found
returns-in-Some-clause-found g c =
    let product = g.S.Semiring.product in
    let moves = c.args.self.now.transducer.now.rules in
    let grammar = c.args.self.now.grammar.now.rules in
    let m = c.args.position in
    let below = subst (λ rs. m < length rs) (sym c.rule_list.ensures) c.requires.below in
    let is = rule_here c.rule_list.result.now moves m c.index-rule_list-position.result c.rule_list.ensures (get_or_read c.rule_list.result.now m c.index-rule_list-position.result below c.index-rule_list-position.is no_rule) in
    let rule = transducer_rule moves m in
    let few = subst (λ v. IfSome v (λ ms. AreMatches product grammar c.index-rule_list-position.result.left c.first.result ms.items)) c.in-Some.is c.in-Ok.ensures in
    all_where product grammar rule.left c.args.key.0 (IsAffordable product c.args.self.now.runs rule) c.in-Some.few.items
    (subst (λ q. AreMatches product grammar rule.left q c.in-Some.few.items) c.first.ensures (subst (λ (r : SideFor _ Variable). AreMatches product grammar r c.first.result c.in-Some.few.items) (ap (λ r. r.left) is) few))
