use Rattle.std.proofs.Common.{rules, ◌≡◌, ◌<◌, ℕ, length, subst, sym, List}
use Rattle.tib_lex.specs.Lists.{Each}
use Rattle.tib_grammar.specs.declared.Rule.{Rule}
use Rattle.tib_normal.specs.Rules.{positions_with}
use Rattle.tib_match.proofs.Listed.{each_below, lefts_ascend}
use Rattle.tib_match.specs.Narrowing.{LeftsAscend}
use Rattle.tib_match.proofs.finding.lead_all.Goals as goal

pub add_led-requires-clause-below : goal.add_led-requires-clause-below
add_led-requires-clause-below g c =
    let same : c.rule_list-rules.result.now ≡ c.args.normal.now.rules = search rules in
    subst (λ (ps : List ℕ). Each (λ p. p < length c.rule_list-rules.result.now) ps) (sym c.rules_with-positions.ensures)
    (subst (λ (rs : List (Rule ℕ)). Each (λ p. p < length rs) (positions_with c.args.label c.args.rank c.args.normal.now.rules)) (sym same)
    (each_below c.args.normal.now.rules c.args.label c.args.rank))

pub add_led-requires-clause-ascend : goal.add_led-requires-clause-ascend
add_led-requires-clause-ascend g c =
    let same : c.rule_list-rules.result.now ≡ c.args.normal.now.rules = search rules in
    subst (λ (ps : List ℕ). LeftsAscend c.rule_list-rules.result.now ps) (sym c.rules_with-positions.ensures)
    (subst (λ (rs : List (Rule ℕ)). LeftsAscend rs (positions_with c.args.label c.args.rank c.args.normal.now.rules)) (sym same)
    (lefts_ascend c.args.normal.now.rules c.args.label c.args.rank c.grammar.ensures.normal.ascends))
