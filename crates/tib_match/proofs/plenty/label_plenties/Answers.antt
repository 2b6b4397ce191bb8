use Rattle.std.proofs.Common.{rules, ◌≡◌, ◌<◌, ℕ, List, length, sym, ◌∙◌, subst, get_or}
use Rattle.tib_lex.specs.Lists.{Has}
use Rattle.tib_lex.proofs.Members.{each_has, has_at}
use Rattle.tib_grammar.specs.declared.Rule.{Rule}
use Rattle.tib_normal.specs.Rules.{positions_with}
use Rattle.tib_match.specs.Counting.{AreChained, plenties_of}
use Rattle.tib_match.proofs.Listed.{each_below}
use Rattle.tib_match.proofs.ColumnSteps.{place_below}
use Rattle.tib_match.proofs.PlentySteps.{entry, last_listed}
use Rattle.tib_match.proofs.plenty.label_plenties.Goals as goal

pub count_rule-requires-clause-within : goal.count_rule-requires-clause-within
count_rule-requires-clause-within g c =
    let same : c.rule_list-rules.result.now ≡ c.args.normal.now.rules = search rules in
    subst (λ (rs : List (Rule ℕ)). get_or c.rules_with-position-items.result.now c.loop-position.position-index 0 < length rs) (sym same)
    (place_below c.args.normal.now.rules c.args.label c.args.rank c.rules_with-position-items.result.now c.loop-position.position-index c.rules_with-position-items.ensures c.loop-position-test.true)

pub count_rule-requires-clause-lasts : goal.count_rule-requires-clause-lasts
count_rule-requires-clause-lasts g c = λ q p e.
    let same : c.rule_list-rules.result.now ≡ c.args.normal.now.rules = search rules in
    let all = c.args.normal.now.rules in
    let ps : List ℕ = positions_with c.args.label c.args.rank all in
    subst (λ (rs : List (Rule ℕ)). p.last < length rs) (sym same)
    (each_has (λ n. n < length all) ps p.last (each_below all c.args.label c.args.rank)
    (last_listed g.S.Semiring.product all ps (plenties_of c.args.below.now) c.args.front (entry c.loop-position.states.items) c.loop-position.invariant.chained q p e))

pub loop-position-preserved : goal.loop-position-preserved
loop-position-preserved g c =
    let same : c.rule_list-rules.result.now ≡ c.args.normal.now.rules = search rules in
    let all = c.args.normal.now.rules in
    let ps : List ℕ = positions_with c.args.label c.args.rank all in
    let i : ℕ = c.loop-position.position-index in
    let has : Has ps (get_or c.rules_with-position-items.result.now i 0) =
    subst (λ (xs : List ℕ). Has xs (get_or c.rules_with-position-items.result.now i 0)) c.rules_with-position-items.ensures (has_at c.rules_with-position-items.result.now i 0 c.loop-position-test.true)
    in
    let below = plenties_of c.args.below.now in
    record {
      long = c.count_rule.ensures.long ∙ c.loop-position.invariant.long;
      chained = subst (λ (rs : List (Rule ℕ)). AreChained g.S.Semiring.product rs ps below c.args.front (entry c.count_rule.new.column.items)) same
          (c.count_rule.ensures.chained ps has (subst (λ (rs : List (Rule ℕ)). AreChained g.S.Semiring.product rs ps below c.args.front (entry c.loop-position.states.items)) (sym same) c.loop-position.invariant.chained));
    }
