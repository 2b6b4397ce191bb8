use Rattle.std.proofs.Common.{rules, ◌≡◌, ◌<◌, ℕ, List, length, take, arith, ap, sym, ◌∙◌, subst, get_or, None}
use Rattle.std.proofs.lemmas.List.{get_or_read, take_all, take_more, length-replicate}
use Rattle.tib_grammar.specs.Run.{rule_at, no_rule}
use Rattle.tib_grammar.specs.Forms.{IsNormalSide}
use Rattle.tib_grammar.specs.declared.Rule.{Rule}
use Rattle.tib_match.specs.Boxes.{IsColumn, IsLowered, column_of, stack_of}
use Rattle.tib_match.proofs.ColumnSteps.{no_rules, column_next, place_below}
use Rattle.tib_match.proofs.columns.label_column.Goals as goal

pub bounds-rules-position : goal.bounds-rules-position
bounds-rules-position g c =
    let same : c.rule_list-rules.result.now ≡ c.args.normal.now.rules = search rules in
    subst (λ (rs : List (Rule ℕ)). get_or c.rules_with-position-items.result.now c.loop-position.position-index 0 < length rs) (sym same)
    (place_below c.args.normal.now.rules c.args.label c.args.rank c.rules_with-position-items.result.now c.loop-position.position-index c.rules_with-position-items.ensures c.loop-position-test.true)

pub lower-requires-clause-normal : goal.lower-requires-clause-normal
lower-requires-clause-normal g c =
    let same : c.rule_list-rules.result.now ≡ c.args.normal.now.rules = search rules in
    let n : ℕ = get_or c.rules_with-position-items.result.now c.loop-position.position-index 0 in
    let below : n < length c.args.normal.now.rules = place_below c.args.normal.now.rules c.args.label c.args.rank c.rules_with-position-items.result.now c.loop-position.position-index c.rules_with-position-items.ensures c.loop-position-test.true in
    let at = get_or_read c.rule_list-rules.result.now n c.index-rules-position.result (subst (λ (rs : List (Rule ℕ)). n < length rs) (sym same) below) c.index-rules-position.is no_rule ∙ ap (λ (rs : List (Rule ℕ)). rule_at rs n) same in
    subst (λ (r : Rule ℕ). IsNormalSide r.right) (sym at) (c.grammar-grammar.ensures.normal.normal n below)

pub lower-requires-clause-within : goal.lower-requires-clause-within
lower-requires-clause-within g c =
    let same : c.rule_list-rules.result.now ≡ c.args.normal.now.rules = search rules in
    let names : length c.grammar-grammar.result.now.names ≡ length c.args.normal.now.names = search rules in
    let all : c.grammar-grammar.result.now.rules ≡ c.args.normal.now.rules = search rules in
    let n : ℕ = get_or c.rules_with-position-items.result.now c.loop-position.position-index 0 in
    let below : n < length c.args.normal.now.rules = place_below c.args.normal.now.rules c.args.label c.args.rank c.rules_with-position-items.result.now c.loop-position.position-index c.rules_with-position-items.ensures c.loop-position-test.true in
    let at = get_or_read c.rule_list-rules.result.now n c.index-rules-position.result (subst (λ (rs : List (Rule ℕ)). n < length rs) (sym same) below) c.index-rules-position.is no_rule ∙ ap (λ (rs : List (Rule ℕ)). rule_at rs n) same in
    let low = (c.is_sound.ensures.range n (subst (λ (rs : List (Rule ℕ)). n < length rs) (sym all) below)).0 in
    let left : c.index-rules-position.result.left ≡ (rule_at c.grammar-grammar.result.now.rules n).left = ap (λ (r : Rule ℕ). r.left) (at ∙ ap (λ (rs : List (Rule ℕ)). rule_at rs n) (sym all)) in
    omega (arith, low, left, names, c.loop-position.invariant.long)

pub loop-position-init : goal.loop-position-init
loop-position-init g c =
    let names : c.states.result ≡ length c.args.normal.now.names = search rules in
    record {
      long = ap length c.in_ok-costs.ensures ∙ length-replicate c.states.result None ∙ names;
      column = no_rules g.S.Semiring.product c.args.normal.now.rules (stack_of c.args.below.now) c.states.result c.in_ok-costs.costs.items c.in_ok-costs.ensures;
    }

pub loop-position-preserved : goal.loop-position-preserved
loop-position-preserved g c =
    let same : c.rule_list-rules.result.now ≡ c.args.normal.now.rules = search rules in
    let ps : List ℕ = c.rules_with-position-items.result.now in
    let i : ℕ = c.loop-position.position-index in
    let n : ℕ = get_or ps i 0 in
    let below : n < length c.args.normal.now.rules = place_below c.args.normal.now.rules c.args.label c.args.rank ps i c.rules_with-position-items.ensures c.loop-position-test.true in
    let at = get_or_read c.rule_list-rules.result.now n c.index-rules-position.result (subst (λ (rs : List (Rule ℕ)). n < length rs) (sym same) below) c.index-rules-position.is no_rule ∙ ap (λ (rs : List (Rule ℕ)). rule_at rs n) same in
    let low = subst (λ (r : Rule ℕ). IsLowered g.S.Semiring.product r (stack_of c.args.below.now) c.loop-position.costs.items c.lower.new.column.items) at c.lower.ensures in
    record {
      long = c.lower.ensures.long ∙ c.loop-position.invariant.long;
      column = subst (λ (xs : List ℕ). IsColumn g.S.Semiring.product c.args.normal.now.rules xs (stack_of c.args.below.now) (column_of c.lower.new.column.items)) (sym (take_more ps i 0 c.loop-position-test.true))
          (column_next g.S.Semiring.product c.args.normal.now.rules (stack_of c.args.below.now) (take i ps) n c.loop-position.costs.items c.lower.new.column.items c.loop-position.invariant.column low);
    }

pub returns : goal.returns
returns g c =
    subst (λ (ps : List ℕ). IsColumn g.S.Semiring.product c.args.normal.now.rules ps (stack_of c.args.below.now) (column_of c.loop-position.costs.items))
    (take_all c.loop-position.position-index c.rules_with-position-items.result.now c.loop-position-test.false ∙ c.rules_with-position-items.ensures)
    c.loop-position.invariant.column
