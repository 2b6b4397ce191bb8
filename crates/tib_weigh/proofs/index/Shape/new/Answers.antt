use Rattle.std.proofs.Common.{◌≡◌, ℕ, List, get_or, ap, ◌∙◌, sym, subst}
use Rattle.tib_grammar.specs.GrammarOf.{GrammarOf}
use Rattle.tib_grammar.specs.declared.Rule.{Rule}
use Rattle.tib_normal.proofs.RulePlaces.{rule_place}
use Rattle.tib_weigh.specs.Buckets.{IsRuleOver}
use Rattle.tib_weigh.proofs.index.Shape.new.Goals as goal

pub tables_of-requires-clause-rules : goal.tables_of-requires-clause-rules
tables_of-requires-clause-rules g c i h =
    let same : c.rule_list.result.now ≡ c.args.normal.now.rules = c.rule_list.ensures ∙ ap (λ (x : GrammarOf). x.rules) c.grammar-grammar.ensures.same in
    let ps = c.rules_with-positions.result.now in
    let at = rule_place c.args.normal.now.rules ps c.args.label c.args.rank i c.rules_with-positions.ensures h in
    subst (λ (rules : List (Rule ℕ)). IsRuleOver rules c.args.rank (get_or ps i 0)) (sym same) (record { below = at.below; many = at.many })
